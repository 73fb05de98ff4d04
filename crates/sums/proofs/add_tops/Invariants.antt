-- `sums::add_tops` meets its contract. The invariant: the first j sections are added.
use mathlib.Core.Path.{◌≡◌}
use Prim.Native.Nat.{◌≤◌, ◌-◌, ◌*◌}
use Rattle.sums.specs.SumLaws.{added, straight}
use Rattle.tables.specs.Sweeps.{Mapped}
use Rattle.sums.proofs.add_tops.Given as goal

abbrev pub invariant-loop-j : goal.invariant-loop-j
invariant-loop-j l = (l.j ≤ l.n) × (l.a ≡ l.j * l.t) × Mapped (added (straight l.t l.block) l.j) l.initial.top l.top

abbrev pub decreases-loop-j : goal.decreases-loop-j
decreases-loop-j l = l.n - l.j
