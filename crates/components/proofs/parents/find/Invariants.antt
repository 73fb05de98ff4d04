-- `parents::find` meets its contract. The invariant: row r is reached from x, and up is its parent. The measure is r. Assumes nothing.
use Rattle.components.specs.Parents.{Seeks}
use Rattle.components.proofs.parents.find.Given as goal

abbrev pub invariant-loop-up : goal.invariant-loop-up
invariant-loop-up l = Seeks l.initial.parent l.initial.r.0 l.parent l.r.0 l.up.0

abbrev pub decreases-loop-up : goal.decreases-loop-up
decreases-loop-up l = l.r.0
