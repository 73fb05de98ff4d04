-- `listed` meets its contract: the front part of the table has an entry for each row. Assumes nothing.
use mathlib.Core.Path.{sym}
use Prim.Native.Nat.{ℕ}
use native.Mathlib.Omega.{arith}
use lib.ListN.{replicate, length-replicate}
use Rattle.plan.specs.Plans.{layout_of}
use Rattle.plan.proofs.PlanLaws.{good_bounds}
use Rattle.tables.specs.Zeros.{front_long}
use Rattle.fetch.proofs.listed.Goals as goal

pub overflow_mul-rows : goal.overflow_mul-rows
overflow_mul-rows c = omega (arith, good_bounds _ c.requires.0)

pub slice_bounds-parent-end : goal.slice_bounds-parent-end
slice_bounds-parent-end c = omega (arith, good_bounds _ c.requires.0)

pub slice_bounds-closings-end-2 : goal.slice_bounds-closings-end-2
slice_bounds-closings-end-2 c = front_long _ (replicate 4096 0) (omega (arith, length-replicate {A = ℕ} 4096 0, good_bounds _ c.requires.0))

pub closings-requires : goal.closings-requires
closings-requires c =
    let p = c.requires in
    (good_bounds _ p.0, p.1, sym (front_long _ (replicate 4096 0) (omega (arith, length-replicate {A = ℕ} 4096 0, good_bounds _ p.0))), p.2)

pub returns : goal.returns
unfolding layout_of
returns c = c.closings.ensures
