-- The marks so far are set, whatever the block.
use mathlib.Core.List.{List}
use Prim.Native.Nat.{ℕ, ◌-◌}
use lib.ListN.{length}
use Rattle.quick.specs.Quick.{Quiet}
use Rattle.quick.proofs.marked.Given as goal

abbrev pub invariant-loop-at : goal.invariant-loop-at
invariant-loop-at l = (v : List ℕ) → Quiet l.places l.bytes v l.initial.bits l.start v l.bits l.at

abbrev pub decreases-loop-at : goal.decreases-loop-at
decreases-loop-at l = length l.bytes - l.at
