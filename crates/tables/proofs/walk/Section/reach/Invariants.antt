-- `tables::walk::Section::reach` meets its contract. The invariant: `end` is the place after section `index`, which begins at or before c.
use mathlib.Core.Path.{◌≡◌}
use Prim.Native.Nat.{◌+◌, ◌-◌, ◌*◌, ◌≤◌, ◌<◌}
use Rattle.tables.proofs.walk.Section.reach.Given as goal

abbrev pub invariant-loop-end : goal.invariant-loop-end
invariant-loop-end l = (l.index < l.n) × (l.end ≡ l.index * l.t + l.t) × (l.end ≤ l.place + l.t)

abbrev pub decreases-loop-end : goal.decreases-loop-end
decreases-loop-end l = l.n - l.index
