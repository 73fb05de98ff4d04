-- `starts::seed_scattered` meets its contract. The invariant: the rows of the marked places below byte i are looked at, and a section is reached there.
use Prim.Native.Nat.{◌-◌, ◌*◌}
use lib.ListN.{length}
use Rattle.tables.specs.Spots.{Reached}
use Rattle.starts.specs.Starts.{Starting}
use Rattle.starts.proofs.seed_scattered.Given as goal

abbrev pub invariant-loop-i : goal.invariant-loop-i
invariant-loop-i l =
    Starting l.n l.t l.shifts l.marks l.tally l.queue l.list (8 * l.i) l.tail l.count × Reached l.n l.t l.shifts (8 * l.i) l.at.index l.at.begin l.at.end l.at.shift

abbrev pub decreases-loop-i : goal.decreases-loop-i
decreases-loop-i l = length l.marks - l.i
