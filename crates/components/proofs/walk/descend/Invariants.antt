-- `walk::descend` meets its contract. The invariant: the walk stands at the place left, and if it is to stop at a place that closes a cycle none on the way did. The measure is that place. Assumes nothing.
use mathlib.Core.Path.{◌≡◌}
use lib.ListN.{length}
use Rattle.components.specs.Walking.{Descending}
use Rattle.components.proofs.walk.descend.Given as goal

abbrev pub invariant-loop-left : goal.invariant-loop-left
invariant-loop-left l =
    Descending l.n l.t l.shifts l.marks l.parent l.initial.spot.place.0 l.spot.place.0 l.spot.section l.spot.offset l.stop × (l.left ≡ l.spot.place.0) × (length l.parent ≡ length l.initial.parent)

abbrev pub decreases-loop-left : goal.decreases-loop-left
decreases-loop-left l = l.left
