use Rattle.std.proofs.Common.{arith}
use Rattle.components.specs.Parents.{own_more}
use Rattle.components.proofs.parents.own.Goals as goal

pub loop-r-preserved : goal.loop-r-preserved
loop-r-preserved c = rw c.put_row.ensures (own_more c.loop-r.invariant (omega arith))
