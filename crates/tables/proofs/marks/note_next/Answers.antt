-- `tables::marks::note_next` meets its contract: the place is noted in the section that is reached.
use native.Mathlib.Omega.{arith}
use Rattle.tables.proofs.Counting.{due_here, due_inside, noted_here}
use Rattle.tables.proofs.marks.note_next.Goals as goal

pub reach-here-requires : goal.reach-here-requires
reach-here-requires c = (c.requires.due.good, c.requires.reached, omega (arith, due_inside c.requires.due (omega arith)))

pub note-requires : goal.note-requires
note-requires c = rw c.from.ensures (due_here c.requires.due (omega arith) c.reach-here.ensures.0 c.reach-here.ensures.1)

pub returns : goal.returns
returns c = record { notes = noted_here c.requires.due.good c.reach-here.ensures.0 c.reach-here.ensures.1 (rw c.from.ensures at c.note.ensures); reached_2 = c.reach-here.ensures.0 }
