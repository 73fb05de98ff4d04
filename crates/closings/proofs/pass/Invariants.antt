-- `pass` meets its contract. The invariant: the walk stands at the place left, and table and list are those of the places passed. The measure is that place. Assumes nothing.
use mathlib.Core.Path.{◌≡◌}
use lib.ListN.{length}
use Rattle.closings.specs.Collecting.{Collecting}
use Rattle.closings.proofs.pass.Given as goal

abbrev pub invariant-loop-left : goal.invariant-loop-left
invariant-loop-left l = Collecting l.n l.t l.shifts l.marks l.parent l.list l.walk.spot.place.0 l.walk.spot.section l.walk.spot.offset l.walk.count × (l.left ≡ l.walk.spot.place.0) × (length l.parent ≡ length l.initial.parent) × (length l.list ≡ length l.initial.list)

abbrev pub decreases-loop-left : goal.decreases-loop-left
decreases-loop-left l = l.left
