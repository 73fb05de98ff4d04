use Rattle.std.proofs.Common.{arith}
use Rattle.math.specs.Members.{up_to}
use Rattle.shifts.specs.ShiftsLaws.{padded_none, counting_more}
use Rattle.shifts.proofs.counting.Goals as goal

pub loop-i-init : goal.loop-i-init
unfolding up_to
loop-i-init c = padded_none

pub loop-i-preserved : goal.loop-i-preserved
loop-i-preserved c = counting_more _ c.loop-i.invariant (omega arith)
