use Rattle.divisors.specs.DivisorsLaws.{row_more, greater_max}
use Rattle.divisors.proofs.of_row.Goals as goal

pub loop-j-preserved : goal.loop-j-preserved
loop-j-preserved c = rw c.max-g.ensures (row_more c.loop-j.invariant c.share.ensures (greater_max _ _))
