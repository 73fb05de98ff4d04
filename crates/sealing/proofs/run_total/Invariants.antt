-- The sum so far is that of the runs passed; each is below 65,536, so it fits.
use mathlib.Core.Path.{◌≡◌}
use Prim.Native.Nat.{◌*◌, ◌≤◌}
use Rattle.runs.specs.Laws.Fronts.{total}
use Rattle.sealing.proofs.run_total.Given as goal

abbrev pub invariant-loop-run : goal.invariant-loop-run
invariant-loop-run l = (l.sum ≡ total l.runs l.run-index) × (l.sum ≤ 65535 * l.run-index)
