-- `round` meets its contract: the loop's invariant is Rounding. Assumes nothing.
use Rattle.rounding.specs.OneRound.{Rounding}
use Rattle.rounding.proofs.round.Given as goal

abbrev pub invariant-loop-i : goal.invariant-loop-i
invariant-loop-i l = Rounding l.n l.t l.shifts l.initial.sum l.initial.tally l.erased l.sum l.tally l.queue l.i l.end l.ends.tail l.ends.left
