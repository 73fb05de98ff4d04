-- `divisors::of_neighbours` meets its contract. The loop's invariant: g is the greatest over the sections below j and their neighbours. Assumes nothing.
use Rattle.divisors.specs.Divisors.{Most, Passed}
use Rattle.divisors.proofs.of_neighbours.Given as goal

abbrev pub invariant-loop-j : goal.invariant-loop-j
invariant-loop-j l = Most l.t l.s (Passed l.n l.t l.s l.j) l.g
