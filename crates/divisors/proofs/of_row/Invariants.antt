-- `divisors::of_row` meets its contract. The loop's invariant: g is the greatest over the sections below j. Assumes nothing.
use Rattle.divisors.specs.Divisors.{Most, Row}
use Rattle.divisors.proofs.of_row.Given as goal

abbrev pub invariant-loop-j : goal.invariant-loop-j
invariant-loop-j l = Most l.t l.s (Row l.i l.j) l.g
