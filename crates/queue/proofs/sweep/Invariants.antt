-- `queue::sweep` meets its contract: the rows from r on can still be swept. Assumes nothing.
use mathlib.Core.Path.{◌≡◌}
use lib.ListN.{length}
use Rattle.queue.specs.Queue.{Sweepable}
use Rattle.queue.proofs.sweep.Given as goal

abbrev pub invariant-loop-r : goal.invariant-loop-r
invariant-loop-r l = Sweepable l.tally l.queue l.r l.to l.end × (length l.queue ≡ length l.initial.queue)
