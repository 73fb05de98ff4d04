use mathlib.Core.Path.{sym, ◌∙◌}
use native.Mathlib.Omega.{arith}
use Rattle.quick.specs.QuickLaws.{shows_none, show_performed}
use borrow.Author.Rules.{rules}
use Rattle.quick.proofs.show_one.Goals as goal

pub byte-requires : goal.byte-requires
byte-requires c = search rules

pub returns-then-byte-ne8 : goal.returns-then-byte-ne8
returns-then-byte-ne8 c = shows_none _ _ _ _ _ _ (omega (arith, c.requires.2)) c.requires.3

pub overflow_sub-sheet : goal.overflow_sub-sheet
overflow_sub-sheet c = search rules

pub returns-then-sheet-to-lt-LINE : goal.returns-then-sheet-to-lt-LINE
returns-then-sheet-to-lt-LINE c = shows_none _ _ _ _ _ _ (omega (arith, c.requires.2)) c.requires.3

pub overflow_add-at : goal.overflow_add-at
overflow_add-at c = search rules

pub pair-c-requires : goal.pair-c-requires
pair-c-requires c = search rules

pub overflow_cast-c : goal.overflow_cast-c
overflow_cast-c c = search rules

pub returns-then-places-c : goal.returns-then-places-c
returns-then-places-c c = shows_none _ _ _ _ _ _ (omega (arith, c.requires.2)) c.requires.3

pub overflow_cast-c-2 : goal.overflow_cast-c-2
overflow_cast-c-2 c = search rules

pub byte-requires-2 : goal.byte-requires-2
byte-requires-2 c = search rules

pub symbol_line-next-requires : goal.symbol_line-next-requires
symbol_line-next-requires c = search rules

pub overflow_add-result : goal.overflow_add-result
overflow_add-result c = search rules

pub shape_of-sheet : goal.shape_of-sheet
shape_of-sheet c = search rules

pub returns : goal.returns
returns c = show_performed _ _ _ _ _ _ (sym c.byte.ensures ∙ c.if-byte-ne8.false) (omega (arith, c.requires.2)) c.pair-c.ensures c.if-places-c.false c.byte-2.ensures c.symbol_line-next.ensures c.requires.3
