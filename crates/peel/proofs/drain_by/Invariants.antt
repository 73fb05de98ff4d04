-- `drain_by` meets its contract: the loop's invariant is Peeling, and the rows that were not yet at the head get fewer. Assumes nothing.
use Prim.Native.Nat.{◌*◌, ◌-◌}
use Rattle.peel.specs.Peels.{Peeling}
use Rattle.peel.proofs.drain_by.Given as goal

abbrev pub invariant-loop-head : goal.invariant-loop-head
invariant-loop-head g l =
    Peeling l.n l.t l.shifts l.initial.sum l.initial.tally l.sum l.tally l.queue l.place l.value l.head l.ends.tail l.ends.count

abbrev pub decreases-loop-head : goal.decreases-loop-head
decreases-loop-head g l = 2 * l.t - l.head
