-- `full` meets its contract. The loop's invariant: the sections passed are full. Assumes nothing.
use Rattle.runs.specs.Runs.{Full}
use Rattle.runs.proofs.full.Given as goal

abbrev pub invariant-loop-j : goal.invariant-loop-j
invariant-loop-j l = Full l.n l.t l.runs l.j
