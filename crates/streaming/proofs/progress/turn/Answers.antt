-- A turn in a window of the sheet.
use mathlib.Core.Path.{refl}
use Prim.Native.Nat.{◌+◌}
use Rattle.lines.specs.Lines.{line_length}
use native.Mathlib.Omega.{arith}
use Rattle.stream.proofs.CourseLaws.{course_full, course_turn, room_not_on}
use borrow.Author.Rules.{rules}
use Rattle.streaming.proofs.progress.turn.Goals as goal

pub overflow_sub-sheet : goal.overflow_sub-sheet
overflow_sub-sheet c = search rules

pub returns-then-sheet-to-lt-LINE : goal.returns-then-sheet-to-lt-LINE
returns-then-sheet-to-lt-LINE c = (course_full _ _ _ _ _ _ _ _ _ c.requires.0 c.requires.2 c.requires.1 c.if-sheet-to-lt-LINE.true, λ z. absurd (room_not_on z))

pub overflow_add-most : goal.overflow_add-most
overflow_add-most c = search rules

pub slice_bounds-take_turn-count : goal.slice_bounds-take_turn-count
slice_bounds-take_turn-count c = search rules

pub slice_bounds-take_turn-start : goal.slice_bounds-take_turn-start
slice_bounds-take_turn-start c = search rules

pub slice_bounds-take_turn-end : goal.slice_bounds-take_turn-end
slice_bounds-take_turn-end c = search rules

pub slice_bounds-take_turn-count-2 : goal.slice_bounds-take_turn-count-2
slice_bounds-take_turn-count-2 c = search rules

pub slice_bounds-take_turn-start-2 : goal.slice_bounds-take_turn-start-2
slice_bounds-take_turn-start-2 c = search rules

pub slice_bounds-take_turn-end-2 : goal.slice_bounds-take_turn-end-2
slice_bounds-take_turn-end-2 c = search rules

pub overflow_add-offset : goal.overflow_add-offset
overflow_add-offset c = search rules

pub take_turn-step-requires : goal.take_turn-step-requires
take_turn-step-requires c = search rules

pub after_turn-requires : goal.after_turn-requires
after_turn-requires c = let r = (course_turn c.args.bytes.now c.args.offset c.args.at c.args.sheet.now c.args.to (c.args.to + line_length) c.requires.0 c.requires.2 refl (omega (arith, c.if-sheet-to-lt-LINE.false, c.requires.1)) c.take_turn-step.ensures).0 in (omega (arith, r.inside, c.requires.3), omega (arith, r.room, c.well_formed))

pub shape_of-block : goal.shape_of-block
shape_of-block c = search rules

pub shape_of-marks : goal.shape_of-marks
shape_of-marks c = search rules

pub shape_of-sheet : goal.shape_of-sheet
shape_of-sheet c = search rules

pub returns : goal.returns
returns c = let a = c.after_turn.ensures in let t = course_turn c.args.bytes.now c.args.offset c.args.at c.args.sheet.now c.args.to (c.args.to + line_length) c.requires.0 c.requires.2 refl (omega (arith, c.if-sheet-to-lt-LINE.false, c.requires.1)) c.take_turn-step.ensures in rw (a.0, a.1, a.2, a.3) t
