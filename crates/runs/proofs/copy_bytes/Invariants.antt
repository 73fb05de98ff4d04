-- `runs::copy_bytes` meets its contract. The loop's invariant: the first i bytes are copied. Assumes nothing.
use mathlib.Core.Path.{◌≡◌}
use mathlib.Core.List.{◌++◌}
use lib.ListN.{length, take, drop}
use Rattle.runs.proofs.copy_bytes.Given as goal

abbrev pub invariant-loop-i : goal.invariant-loop-i
invariant-loop-i l = (length l.into ≡ length l.initial.into) × (l.into ≡ take l.i l.from ++ drop l.i l.initial.into)
