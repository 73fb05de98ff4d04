-- The room that is left is the measure.
use Rattle.std.proofs.Common.{length, ◌-◌, ◌≤◌}
use Rattle.desk_tests.proofs.read_full.Given as goal

abbrev pub invariant-loop-read : goal.invariant-loop-read
invariant-loop-read l = l.read ≤ length l.text

abbrev pub decreases-loop-read : goal.decreases-loop-read
decreases-loop-read l = length l.initial.text - l.read
