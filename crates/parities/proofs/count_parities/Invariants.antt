-- Section by section the places from the run on are noted. The invariant: the parity places below section j are counted, and a section is reached there.
use Prim.Native.Nat.{◌*◌}
use Rattle.plan.specs.Layout.{layout}
use Rattle.code.specs.Laws.ParityCount.{parities}
use Rattle.tables.specs.Spots.{Reached}
use Rattle.tables.specs.Counting.{Seen}
use Rattle.parities.proofs.count_parities.Given as goal

abbrev pub invariant-loop-j : goal.invariant-loop-j
invariant-loop-j l =
    Reached l.n l.t l.shifts (l.j * l.t) l.at.index l.at.begin l.at.end l.at.shift
    × Seen l.n l.t l.shifts (parities (layout l.n l.t l.shifts)) (l.j * l.t) l.tally
