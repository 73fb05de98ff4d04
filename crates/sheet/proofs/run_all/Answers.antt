use mathlib.Core.Path.{ap, sym, ◌∙◌}
use Rattle.putting.specs.PutLaws.{phase_number, going_by}
use Rattle.one_sheet.specs.Begins.{left_less}
use Rattle.sheet.specs.RunningLaws.{run_start, run_whole, run_full}
use Rattle.sheet.proofs.run_all.Goals as goal

pub loop-here-init : goal.loop-here-init
loop-here-init c = let p = c.requires in run_start _ _ _ _ _ _ p.0 p.1 p.2

pub next-here-requires : goal.next-here-requires
next-here-requires c = ((_, c.loop-here.invariant), c.in-Going.is)

pub loop-here-smaller : goal.loop-here-smaller
loop-here-smaller c = left_less _ _ _ _ _ (ap phase_number c.in-Going.is) c.loop-here.invariant.inside (λ z. c.next-here.ensures.1 (going_by _ z))

pub loop-here-preserved : goal.loop-here-preserved
loop-here-preserved c = c.next-here.ensures.0 _ c.loop-here.invariant

pub shape_of-block-in-Closed : goal.shape_of-block-in-Closed
shape_of-block-in-Closed c = c.loop-here.invariant.kept.block_long ∙ sym c.requires.0.block_long

pub shape_of-marks-in-Closed : goal.shape_of-marks-in-Closed
shape_of-marks-in-Closed c = c.loop-here.invariant.kept.marks_long ∙ sym c.requires.0.marks_long

pub shape_of-line-in-Closed : goal.shape_of-line-in-Closed
shape_of-line-in-Closed c = c.loop-here.invariant.line_long ∙ sym c.requires.1

pub shape_of-sheet-in-Closed : goal.shape_of-sheet-in-Closed
shape_of-sheet-in-Closed c = c.loop-here.invariant.long

pub returns-in-Closed : goal.returns-in-Closed
returns-in-Closed c = run_whole c.loop-here.invariant c.in-Closed.is

pub shape_of-block-in_default-phase : goal.shape_of-block-in_default-phase
shape_of-block-in_default-phase c = c.loop-here.invariant.kept.block_long ∙ sym c.requires.0.block_long

pub shape_of-marks-in_default-phase : goal.shape_of-marks-in_default-phase
shape_of-marks-in_default-phase c = c.loop-here.invariant.kept.marks_long ∙ sym c.requires.0.marks_long

pub shape_of-line-in_default-phase : goal.shape_of-line-in_default-phase
shape_of-line-in_default-phase c = c.loop-here.invariant.line_long ∙ sym c.requires.1

pub shape_of-sheet-in_default-phase : goal.shape_of-sheet-in_default-phase
shape_of-sheet-in_default-phase c = c.loop-here.invariant.long

pub returns-in_default-phase : goal.returns-in_default-phase
returns-in_default-phase c = run_full c.loop-here.invariant c.in_default.not-Going c.in_default-phase.not-Closed
