use mathlib.Core.Path.{ap, sym, ◌∙◌}
use native.Mathlib.Omega.{arith}
use Rattle.one_sheet.specs.Begins.{left_less}
use Rattle.stream.proofs.CourseLaws.{course_none, course_both, halt_number, on_by}
use Rattle.streaming.proofs.progress.perform_all.Goals as goal

pub loop-here-init : goal.loop-here-init
loop-here-init c = course_none _ _ _ _ _ _ _ _ _ c.requires.0 (omega arith) c.requires.1

pub next-here-requires : goal.next-here-requires
next-here-requires c = (c.loop-here.invariant.kept, omega (arith, c.loop-here.invariant.room, c.loop-here.invariant.wrote.long), c.loop-here.invariant.inside, c.requires.2)

pub loop-here-smaller : goal.loop-here-smaller
loop-here-smaller c = left_less _ _ _ _ _ (ap halt_number c.in-On.is) c.loop-here.invariant.inside (λ z. c.next-here.ensures.1 (on_by _ z))

pub loop-here-preserved : goal.loop-here-preserved
loop-here-preserved c = course_both c.in-On.is c.loop-here.invariant c.next-here.ensures.0

pub shape_of-block : goal.shape_of-block
shape_of-block c = c.loop-here.invariant.kept.block_long ∙ sym c.requires.0.block_long

pub shape_of-marks : goal.shape_of-marks
shape_of-marks c = c.loop-here.invariant.kept.marks_long ∙ sym c.requires.0.marks_long

pub shape_of-sheet : goal.shape_of-sheet
shape_of-sheet c = c.loop-here.invariant.wrote.long

pub returns : goal.returns
returns c = (c.loop-here.invariant, c.in_default.not-On)
