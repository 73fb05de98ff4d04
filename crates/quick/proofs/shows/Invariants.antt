use lib.ListN.{length}
use Prim.Native.Nat.{◌-◌}
use Rattle.quick.specs.Quick.{Shows}
use Rattle.quick.proofs.shows.Given as goal

abbrev pub invariant-loop-at : goal.invariant-loop-at
invariant-loop-at l = Shows l.places l.bytes l.block l.start l.initial.sheet l.filled l.at l.sheet l.to

abbrev pub decreases-loop-at : goal.decreases-loop-at
decreases-loop-at l = length l.bytes - l.at
