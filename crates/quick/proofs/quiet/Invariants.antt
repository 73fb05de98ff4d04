use lib.ListN.{length}
use Prim.Native.Nat.{◌-◌}
use Rattle.quick.specs.Quick.{Quiet}
use Rattle.quick.proofs.quiet.Given as goal

abbrev pub invariant-loop-at : goal.invariant-loop-at
invariant-loop-at l = Quiet l.places l.bytes l.initial.block l.initial.bits l.start l.block l.bits l.at

abbrev pub decreases-loop-at : goal.decreases-loop-at
decreases-loop-at l = length l.bytes - l.at
