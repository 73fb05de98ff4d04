-- `counting` meets its contract. The loop's invariant: the array holds the numbers below i. Assumes nothing.
use Rattle.std.proofs.Common.{◌≡◌}
use Rattle.math.specs.Members.{up_to}
use Rattle.shifts.specs.Shifts.{padded}
use Rattle.shifts.proofs.counting.Given as goal

abbrev pub invariant-loop-i : goal.invariant-loop-i
invariant-loop-i l = l.a ≡ padded (up_to l.i)
