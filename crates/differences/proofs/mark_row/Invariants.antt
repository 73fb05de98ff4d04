-- `differences::mark_row` meets its contract. The loop's invariant: the differences before the pair i, j are marked. Assumes nothing.
use Rattle.differences.specs.Differences.{Marked}
use Rattle.differences.proofs.mark_row.Given as goal

abbrev pub invariant-loop-j : goal.invariant-loop-j
invariant-loop-j l = Marked l.n l.t l.s l.i l.j l.marks
