use mathlib.Core.Path.{refl}
use native.Mathlib.Omega.{arith}
use Rattle.shifts.specs.ShiftsLaws.{test_stops, test_goes_on, test_ends}
use Rattle.shifts.proofs.all_below.Goals as goal

pub loop-i-init : goal.loop-i-init
loop-i-init c = refl

pub returns-then-t-from : goal.returns-then-t-from
returns-then-t-from c = test_stops _ _ _ c.loop-i.invariant refl (omega arith) (omega arith)

pub loop-i-preserved : goal.loop-i-preserved
loop-i-preserved c = test_goes_on _ _ _ c.loop-i.invariant refl (omega arith) (omega arith)

pub returns : goal.returns
returns c = test_ends _ _ c.loop-i.i c.loop-i.invariant (omega arith)
