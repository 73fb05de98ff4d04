-- The quick ones, then a turn.
use native.Mathlib.Omega.{arith}
use mathlib.Core.Path.{refl}
use mathlib.Core.Bool.{true}
use Rattle.stream.proofs.CourseLaws.{course_both}
use borrow.Author.Rules.{rules}
use Rattle.streaming.proofs.progress.next.Goals as goal

pub quickly-went-requires : goal.quickly-went-requires
quickly-went-requires c = search rules

pub turn-requires : goal.turn-requires
turn-requires c = let q = c.quickly-went.ensures true 0 in (q.kept, omega (arith, q.room, q.wrote.long), q.inside, c.requires.3)

pub shape_of-block : goal.shape_of-block
shape_of-block c = search rules

pub shape_of-marks : goal.shape_of-marks
shape_of-marks c = search rules

pub shape_of-sheet : goal.shape_of-sheet
shape_of-sheet c = search rules

pub returns : goal.returns
returns c = (course_both refl (c.quickly-went.ensures _ _) c.turn.ensures.0, λ z. omega (arith, c.turn.ensures.1 z, (c.quickly-went.ensures true 0).forwards))
