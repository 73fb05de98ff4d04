-- `divisors::of_pairs` meets its contract. The loop's invariant: g is the greatest over the pairs below i. Assumes nothing.
use Rattle.divisors.specs.Divisors.{Most, Ordered}
use Rattle.divisors.proofs.of_pairs.Given as goal

abbrev pub invariant-loop-i : goal.invariant-loop-i
invariant-loop-i l = Most l.t l.s (Ordered l.i) l.g
