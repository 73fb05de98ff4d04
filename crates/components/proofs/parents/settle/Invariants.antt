-- `parents::settle` meets its contract. The invariant: the rows below r hang from their roots. Assumes nothing.
use Rattle.components.specs.Parents.{Settled}
use Rattle.components.proofs.parents.settle.Given as goal

abbrev pub invariant-loop-r : goal.invariant-loop-r
invariant-loop-r l = Settled l.initial.parent l.parent l.r
