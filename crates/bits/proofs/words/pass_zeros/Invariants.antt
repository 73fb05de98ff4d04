-- `bits::words::pass_zeros` meets its contract. The invariant: no place of the bytes from i to a is marked.
use Prim.Native.Nat.{◌-◌, ◌/◌, ◌≤◌}
use Rattle.bounds.specs.Bounds.{max_places}
use Rattle.bits.specs.Words.{Clear}
use Rattle.bits.proofs.words.pass_zeros.Given as goal

abbrev pub invariant-loop-a : goal.invariant-loop-a
invariant-loop-a l = Clear l.marks l.i l.a × (l.a ≤ max_places / 4)

abbrev pub decreases-loop-a : goal.decreases-loop-a
decreases-loop-a l = max_places / 4 - l.a
