use Rattle.divisors.specs.DivisorsLaws.{pairs_more, greater_max}
use Rattle.divisors.proofs.of_pairs.Goals as goal

pub loop-i-preserved : goal.loop-i-preserved
loop-i-preserved c = rw c.max-g.ensures (pairs_more c.loop-i.invariant c.of_row.ensures (greater_max _ _))
