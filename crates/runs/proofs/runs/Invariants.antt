-- `runs` meets its contract. The loop's invariant: the runs from j on are known, and the divisor there. Assumes nothing.
use Rattle.runs.specs.Laws.Computing.{Known}
use Rattle.runs.proofs.runs.Given as goal

abbrev pub invariant-loop-j : goal.invariant-loop-j
invariant-loop-j l = Known l.n l.t l.shifts l.j l.g l.r
