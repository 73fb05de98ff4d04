-- `divisors::share` meets its contract. Assumes nothing.
use Rattle.math.specs.Gcd.{gap}
use Rattle.divisors.specs.DivisorsLaws.{share_is}
use Rattle.divisors.proofs.share.Goals as goal

pub returns : goal.returns
unfolding gap
returns c = share_is _ _ _ _ c.from.ensures c.from-2.ensures c.abs_diff.ensures c.gcd.ensures
