-- `powers` meets its contract. The loop's invariant: the array holds the first i powers, and the next one is at hand. Assumes nothing.
use Rattle.std.proofs.Common.{◌≡◌, ◌^◌, ◌%◌, map}
use Rattle.math.specs.Members.{up_to}
use Rattle.shifts.specs.Shifts.{padded}
use Rattle.shifts.proofs.powers.Given as goal

abbrev pub invariant-loop-i : goal.invariant-loop-i
invariant-loop-i l = record {
  next : l.power ≡ l.q ^ l.i % l.t;
  held : l.a ≡ padded (map (λ j. l.q ^ j % l.t) (up_to l.i));
}
