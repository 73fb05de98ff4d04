-- `starts::append` meets its contract. The invariant: the first k rows of the list follow in the queue. Assumes nothing.
use mathlib.Core.Path.{◌≡◌}
use lib.ListN.{length}
use Rattle.starts.specs.Starts.{Appended}
use Rattle.starts.proofs.append.Given as goal

abbrev pub invariant-loop-k : goal.invariant-loop-k
invariant-loop-k l = Appended l.initial.queue l.list l.tail l.k l.queue × (length l.queue ≡ length l.initial.queue)
