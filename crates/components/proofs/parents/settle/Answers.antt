use Rattle.std.proofs.Common.{arith}
use Rattle.components.specs.Parents.{settled_more}
use Rattle.components.proofs.parents.settle.Goals as goal

pub loop-r-preserved : goal.loop-r-preserved
loop-r-preserved c = rw (c.put_row.ensures, c.row_at-root.ensures, c.row_at-up.ensures) (settled_more c.loop-r.invariant (omega arith))
