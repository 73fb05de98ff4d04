-- What refuses the state, then the turn.
use mathlib.Core.Path.{sym, ◌∙◌}
use Rattle.standing.specs.StandingLaws.{pass_kept}
use Rattle.job.proofs.PerformLaws.{performs_bad, performs_passed}
use Rattle.job.proofs.perform.Goals as goal

pub take_turn-requires : goal.take_turn-requires
take_turn-requires c = pass_kept _ _ _ _ (sym c.check_held.ensures ∙ c.in-Ok.is)

pub returns-in-Err : goal.returns-in-Err
returns-in-Err c = performs_bad _ _ _ _ _ _ _ _ (sym c.check_held.ensures ∙ c.in-Err.is)

pub shape_of-block-in-Ok : goal.shape_of-block-in-Ok
shape_of-block-in-Ok c = c.take_turn.auto.block

pub shape_of-marks-in-Ok : goal.shape_of-marks-in-Ok
shape_of-marks-in-Ok c = c.take_turn.auto.marks

pub shape_of-line-in-Ok : goal.shape_of-line-in-Ok
shape_of-line-in-Ok c = c.take_turn.auto.line

pub returns-in-Ok : goal.returns-in-Ok
returns-in-Ok c = performs_passed (sym c.check_held.ensures ∙ c.in-Ok.is) c.take_turn.ensures
