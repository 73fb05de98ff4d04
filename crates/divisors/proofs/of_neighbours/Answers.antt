use Rattle.divisors.specs.DivisorsLaws.{near_more, near_all, greater_max}
use Rattle.divisors.proofs.of_neighbours.Goals as goal

pub loop-j-preserved : goal.loop-j-preserved
loop-j-preserved c = rw c.max-g.ensures (near_more _ c.loop-j.invariant c.of_near.ensures (greater_max _ _))

pub returns : goal.returns
returns c = near_all _ c.loop-j-test.false c.loop-j.invariant
