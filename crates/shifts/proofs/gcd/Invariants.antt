-- `gcd` meets its contract. The loop keeps the divisor of the two numbers, and the second one falls. Assumes nothing.
use Rattle.math.specs.Gcd.{gcd}
use mathlib.Core.Path.{◌≡◌}
use Rattle.shifts.proofs.gcd.Given as goal

abbrev pub invariant-loop-y : goal.invariant-loop-y
invariant-loop-y l = gcd l.x l.y ≡ gcd l.a l.b

abbrev pub decreases-loop-y : goal.decreases-loop-y
decreases-loop-y l = l.y
