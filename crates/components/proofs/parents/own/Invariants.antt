-- `parents::own` meets its contract. The invariant: the rows below r are their own parents. Assumes nothing.
use Rattle.components.specs.Parents.{Own}
use Rattle.components.proofs.parents.own.Given as goal

abbrev pub invariant-loop-r : goal.invariant-loop-r
invariant-loop-r l = Own l.initial.parent l.parent l.r
