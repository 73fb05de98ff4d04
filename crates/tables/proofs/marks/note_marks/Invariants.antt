-- `tables::marks::note_marks` meets its contract. The invariant: the table tallies the erasures below byte i, and a section is reached there.
use Prim.Native.Nat.{◌+◌, ◌-◌, ◌*◌, ◌<◌}
use lib.ListN.{length}
use Rattle.tables.specs.Spots.{Reached}
use Rattle.tables.specs.Scan.{Scanned}
use Rattle.tables.proofs.marks.note_marks.Given as goal

abbrev pub invariant-loop-i : goal.invariant-loop-i
invariant-loop-i l =
    (l.first.0 < 8 * l.i + 64) × Reached l.n l.t l.shifts (8 * l.i) l.at.index l.at.begin l.at.end l.at.shift × Scanned l.n l.t l.shifts l.marks l.first.0 (8 * l.i) l.tally

abbrev pub decreases-loop-i : goal.decreases-loop-i
decreases-loop-i l = length l.marks - l.i
