-- `all_below` meets its contract. The loop's invariant: the answer is that of the shifts from i on. Assumes nothing.
use mathlib.Core.Path.{◌≡◌}
use lib.ListN.{drop}
use Rattle.bounds.specs.Bounds.{all_below}
use Rattle.shifts.proofs.all_below.Given as goal

abbrev pub invariant-loop-i : goal.invariant-loop-i
invariant-loop-i l = all_below l.t l.s ≡ all_below l.t (drop l.i l.s)
