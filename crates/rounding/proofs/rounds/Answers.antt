-- `rounds` meets its contract: the front part of each table has an entry for each row. Assumes nothing.
use mathlib.Core.Path.{sym}
use native.Mathlib.Omega.{arith}
use Rattle.plan.specs.Plans.{layout_of}
use Rattle.plan.proofs.PlanLaws.{good_bounds}
use Rattle.rounding.specs.AllRounds.{plan_lent, plan_table}
use Rattle.rounding.proofs.rounds.Goals as goal

pub overflow_mul-rows : goal.overflow_mul-rows
overflow_mul-rows c = omega (arith, good_bounds _ c.requires.plan_value.0)

pub slice_bounds-sum-end : goal.slice_bounds-sum-end
slice_bounds-sum-end c = omega (arith, good_bounds _ c.requires.plan_value.0)

pub slice_bounds-count_rounds-end-2 : goal.slice_bounds-count_rounds-end-2
slice_bounds-count_rounds-end-2 c = (plan_table _ c.requires.plan_value.0).1

pub slice_bounds-tally-end : goal.slice_bounds-tally-end
slice_bounds-tally-end c = omega (arith, good_bounds _ c.requires.plan_value.0)

pub slice_bounds-count_rounds-end-3 : goal.slice_bounds-count_rounds-end-3
slice_bounds-count_rounds-end-3 c = (plan_table _ c.requires.plan_value.0).1

pub slice_bounds-queue-end : goal.slice_bounds-queue-end
slice_bounds-queue-end c = omega (arith, good_bounds _ c.requires.plan_value.0)

pub slice_bounds-count_rounds-end-4 : goal.slice_bounds-count_rounds-end-4
slice_bounds-count_rounds-end-4 c = (plan_table _ c.requires.plan_value.0).1

pub count_rounds-requires : goal.count_rounds-requires
unfolding layout_of
count_rounds-requires c = let p = c.requires in let z = plan_table _ p.plan_value.0 in record { lent = (plan_lent _ _ p.plan_value.0 p.plan_value.1 p.plan_value.2, p.forest.0, p.forest.1); sum_value = (z.0, z.0, sym z.1) }

pub returns : goal.returns
unfolding layout_of
returns c = c.count_rounds.ensures
