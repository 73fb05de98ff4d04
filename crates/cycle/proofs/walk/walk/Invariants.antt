-- The loop's invariant: of whatever list the tallies walk, z places are written and the next one is at hand.
-- Some list is walked, so z stays below 2t; the measure is what is left of 2t.
use mathlib.Core.List.{List}
use Prim.Native.Nat.{ℕ, ◌*◌, ◌-◌}
use Rattle.cycle.specs.Walks.{Walks, Walking}
use Rattle.cycle.proofs.walk.walk.Given as goal

abbrev pub invariant-loop-spot : goal.invariant-loop-spot
invariant-loop-spot turn =
    (l : List ℕ) → Walks turn.n turn.t turn.shifts turn.tally turn.first.place.0 l → Walking turn.t l turn.witness turn.z turn.spot.place.0 turn.spot.section turn.spot.offset

abbrev pub decreases-loop-spot : goal.decreases-loop-spot
decreases-loop-spot l = 2 * l.t - l.z
