-- `divisors::of_near` meets its contract. Assumes nothing.
use native.Mathlib.Omega.{arith}
use Rattle.divisors.specs.DivisorsLaws.{near_one, neighbour_below}
use Rattle.divisors.proofs.of_near.Goals as goal

pub share-requires : goal.share-requires
share-requires c = let k = neighbour_below c.in-Some.ensures in (omega arith, omega arith)

pub returns-in-Some : goal.returns-in-Some
returns-in-Some c = near_one _ c.in-Some.ensures c.share.ensures
