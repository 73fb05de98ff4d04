-- `walk::back` meets its contract. The invariant: section and offset still give the place. The measure is what the offset lacks to m. Assumes nothing.
use Prim.Native.Nat.{◌-◌}
use Rattle.components.specs.Back.{Goes}
use Rattle.components.proofs.walk.back.Given as goal

abbrev pub invariant-loop-offset : goal.invariant-loop-offset
invariant-loop-offset l = Goes l.t l.spot.place.0 l.m l.section l.offset

abbrev pub decreases-loop-offset : goal.decreases-loop-offset
decreases-loop-offset l = l.m - l.offset
