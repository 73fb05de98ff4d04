-- `ones_in` meets its contract. The loop's sum is that of the bytes passed, at most 8 for each. Assumes nothing.
use Rattle.std.proofs.Common.{◌≡◌, ◌*◌, ◌≤◌}
use Rattle.code.specs.Marks.{mark_count}
use Rattle.stretches.proofs.ones_in.Given as goal

abbrev pub invariant-loop-byte : goal.invariant-loop-byte
invariant-loop-byte l = (l.sum ≤ 8 * l.byte-index) × (l.sum ≡ mark_count l.marks (8 * l.i) (8 * l.byte-index))
