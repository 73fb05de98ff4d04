-- `differences::all_distinct` meets its contract. The loop's invariant: the differences of the sections below i are marked. Assumes nothing.
use Rattle.differences.specs.Differences.{Marked}
use Rattle.differences.proofs.all_distinct.Given as goal

abbrev pub invariant-loop-i : goal.invariant-loop-i
invariant-loop-i l = Marked l.n l.t l.s l.i 0 l.marks
