-- 03: the symbol is stored and its mark cleared.
use mathlib.Core.Path.{sym, ◌∙◌}
use native.Mathlib.Omega.{arith}
use Rattle.quick.specs.QuickLaws.{quiet_none, symbol_performed}
use borrow.Author.Rules.{rules}
use Rattle.quick.proofs.symbol.Goals as goal

pub byte-requires : goal.byte-requires
byte-requires c = search rules

pub returns-then-byte-ne3 : goal.returns-then-byte-ne3
returns-then-byte-ne3 c = quiet_none _ _ _ _ _ (omega (arith, c.requires.3))

pub overflow_add-at : goal.overflow_add-at
overflow_add-at c = search rules

pub pair-c-requires : goal.pair-c-requires
pair-c-requires c = search rules

pub overflow_cast-c : goal.overflow_cast-c
overflow_cast-c c = search rules

pub returns-then-places-c : goal.returns-then-places-c
returns-then-places-c c = quiet_none _ _ _ _ _ (omega (arith, c.requires.3))

pub overflow_add-at-2 : goal.overflow_add-at-2
overflow_add-at-2 c = search rules

pub byte-requires-2 : goal.byte-requires-2
byte-requires-2 c = search rules

pub put-requires : goal.put-requires
put-requires c = search rules

pub clear_mark-requires : goal.clear_mark-requires
clear_mark-requires c = search rules

pub overflow_add-result : goal.overflow_add-result
overflow_add-result c = search rules

pub shape_of-block : goal.shape_of-block
shape_of-block c = search rules

pub shape_of-bits : goal.shape_of-bits
shape_of-bits c = search rules

pub returns : goal.returns
returns c = symbol_performed _ _ _ _ _ (λ i. (c.slice_known-2-1.given i).fits) (sym c.byte.ensures ∙ c.if-byte-ne3.false) (omega (arith, c.requires.3)) c.pair-c.ensures c.byte-2.ensures c.if-places-c.false c.put.ensures c.clear_mark.ensures
