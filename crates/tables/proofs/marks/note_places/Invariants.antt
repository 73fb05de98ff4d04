-- `tables::marks::note_places` meets its contract. The invariant: the places from c to d are noted, the others are due, and a section is reached at d.
use Prim.Native.Nat.{◌-◌, ◌≤◌}
use Rattle.tables.specs.Spots.{Reached}
use Rattle.tables.specs.Counting.{Due, Notes}
use Rattle.tables.proofs.marks.note_places.Given as goal

abbrev pub invariant-loop-d : goal.invariant-loop-d
invariant-loop-d l =
    (l.c ≤ l.d) × (l.d ≤ l.end) × Due l.n l.t l.shifts l.d l.end l.tally × Notes l.n l.t l.shifts l.c l.d l.initial.tally l.tally
    × Reached l.n l.t l.shifts l.d l.here.index l.here.begin l.here.end l.here.shift

abbrev pub decreases-loop-d : goal.decreases-loop-d
decreases-loop-d l = l.end - l.d
