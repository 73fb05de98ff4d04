use native.Mathlib.Omega.{arith}
use Rattle.quick.specs.QuickLaws.{quiet_none, run_performed}
use borrow.Author.Rules.{rules}
use Rattle.quick.proofs.run.Goals as goal

pub overflow_add-at : goal.overflow_add-at
overflow_add-at c = search rules

pub pair-c-requires : goal.pair-c-requires
pair-c-requires c = search rules

pub overflow_add-at-2 : goal.overflow_add-at-2
overflow_add-at-2 c = search rules

pub pair-m-requires : goal.pair-m-requires
pair-m-requires c = search rules

pub overflow_cast-c : goal.overflow_cast-c
overflow_cast-c c = search rules

pub overflow_cast-m : goal.overflow_cast-m
overflow_cast-m c = search rules

pub overflow_add-c : goal.overflow_add-c
overflow_add-c c = search rules

pub returns-then-places-c : goal.returns-then-places-c
returns-then-places-c c = λ v. quiet_none _ _ _ _ _ (omega (arith, c.requires.2))

pub mark_run-requires : goal.mark_run-requires
mark_run-requires c = search rules

pub overflow_add-result : goal.overflow_add-result
overflow_add-result c = search rules

pub shape_of-bits : goal.shape_of-bits
shape_of-bits c = search rules

pub returns : goal.returns
returns c = λ v. run_performed _ _ _ _ _ (λ i. (c.slice_known-1.given i).fits) c.requires.3 c.requires.2 c.pair-c.ensures c.pair-m.ensures c.if-places-c.false c.mark_run.ensures
