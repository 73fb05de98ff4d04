-- The plan is refused, or begun. Assumes nothing.
use mathlib.Core.Path.{refl, sym, ap, ◌∙◌}
use Rattle.refusals.specs.Refusals.{test_of}
use Rattle.refusals.proofs.RefusalLaws.{pass_not_stop}
use Rattle.lines.proofs.LinesLaws.{wrote_none}
use Rattle.act.proofs.ActLaws.{made_acts}
use Rattle.turns.proofs.TurnLaws.{on_refused, on_acts}
use Rattle.job.proofs.make.Goals as goal

pub begin-requires : goal.begin-requires
begin-requires c = (c.made.ensures.good _ c.in-Ok.is, c.requires.0.block_long, c.requires.0.marks_long)

pub shape_of-line : goal.shape_of-line
shape_of-line c = c.stop.auto.line

pub returns-in-Err : goal.returns-in-Err
returns-in-Err c =
    λ b last p e. on_refused _ p (sym (ap test_of c.in-Err.is) ∙ sym (c.made.ensures.refusal _)) (λ q. pass_not_stop _ (sym q)) c.stop.ensures.1
    (record { held = c.stop.ensures.0; block = refl; marks = refl })

pub shape_of-block : goal.shape_of-block
shape_of-block c = c.begin.auto.block

pub shape_of-marks : goal.shape_of-marks
shape_of-marks c = c.begin.auto.marks

pub returns-in-Ok : goal.returns-in-Ok
returns-in-Ok c =
    λ b last p e. on_acts _ _ p e (c.made.ensures.refusal _ ∙ ap test_of c.in-Ok.is)
    (record { count = 0; on = refl; used = refl; length = refl; text = _; wrote = wrote_none _; acts = made_acts c.made.ensures _ (rw c.in-Ok.is c.begin.ensures) })
