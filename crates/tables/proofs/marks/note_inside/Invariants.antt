-- `tables::marks::note_inside` meets its contract. The invariant: the bits of `rest` are the places of the word that are still to be noted.
use Prim.Native.Nat.{◌*◌}
use Rattle.tables.specs.WordWalk.{WordWalk}
use Rattle.tables.specs.Scan.{Scanned}
use Rattle.tables.proofs.marks.note_inside.Given as goal

abbrev pub invariant-loop-rest : goal.invariant-loop-rest
invariant-loop-rest l =
    WordWalk (λ c. Scanned l.n l.t l.shifts l.marks l.first c l.tally) l.n l.t l.shifts l.marks l.first (8 * l.i) l.rest l.at.index l.at.begin l.at.end l.at.shift

abbrev pub decreases-loop-rest : goal.decreases-loop-rest
decreases-loop-rest l = l.rest
