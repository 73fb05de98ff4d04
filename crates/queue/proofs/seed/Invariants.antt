-- `queue::seed` meets its contract: the rows of the groups from g on can still be swept. Assumes nothing.
use lib.ListN.{length}
use mathlib.Core.Path.{◌≡◌}
use Prim.Native.Nat.{◌*◌}
use Rattle.queue.specs.Queue.{Sweepable}
use Rattle.queue.proofs.seed.Given as goal

abbrev pub invariant-loop-g : goal.invariant-loop-g
invariant-loop-g l = Sweepable l.tally l.queue (8 * l.g) l.rows l.tail × (length l.queue ≡ length l.initial.queue)
