-- 04: the mark is set.
use mathlib.Core.Path.{sym, ◌∙◌}
use native.Mathlib.Omega.{arith}
use Rattle.quick.specs.QuickLaws.{quiet_none, mark_performed}
use borrow.Author.Rules.{rules}
use Rattle.quick.proofs.mark.Goals as goal

pub byte-requires : goal.byte-requires
byte-requires c = search rules

pub returns-then-byte-ne4 : goal.returns-then-byte-ne4
returns-then-byte-ne4 c = λ v. quiet_none _ _ _ _ _ (omega (arith, c.requires.2))

pub overflow_add-at : goal.overflow_add-at
overflow_add-at c = search rules

pub pair-c-requires : goal.pair-c-requires
pair-c-requires c = search rules

pub overflow_cast-c : goal.overflow_cast-c
overflow_cast-c c = search rules

pub returns-then-places-c : goal.returns-then-places-c
returns-then-places-c c = λ v. quiet_none _ _ _ _ _ (omega (arith, c.requires.2))

pub set_mark-requires : goal.set_mark-requires
set_mark-requires c = search rules

pub overflow_add-result : goal.overflow_add-result
overflow_add-result c = search rules

pub shape_of-bits : goal.shape_of-bits
shape_of-bits c = search rules

pub returns : goal.returns
returns c = λ v. mark_performed _ _ _ _ _ (λ i. (c.slice_known-1.given i).fits) (sym c.byte.ensures ∙ c.if-byte-ne4.false) (omega (arith, c.requires.2)) c.pair-c.ensures c.if-places-c.false c.set_mark.ensures
