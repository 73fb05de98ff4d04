use native.Mathlib.Omega.{arith}
use Rattle.sums.specs.SumLaws.{turned, added_none}
use Rattle.sums.proofs.add_bottoms.Goals as goal

pub loop-j-init : goal.loop-j-init
loop-j-init c = (omega arith, omega arith, added_none (turned c.args.t c.args.shifts.now c.args.block.now) c.args.bottom.now)
