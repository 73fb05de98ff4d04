-- `put_run` meets its contract. The invariant: the places from the start up to the next one have the bit. Assumes nothing.
use Prim.Native.Nat.{◌-◌, ◌≤◌}
use Rattle.std.specs.Int.{from_bool}
use Rattle.bits.specs.Bits.{Marked}
use Rattle.bits.proofs.marks.put_run.Given as goal

abbrev pub invariant-loop-at : goal.invariant-loop-at
invariant-loop-at l = (l.start ≤ l.at) × (l.at ≤ l.end) × Marked l.initial.marks l.start (l.at - l.start) (from_bool l.on) l.marks

abbrev pub decreases-loop-at : goal.decreases-loop-at
decreases-loop-at l = l.end - l.at
