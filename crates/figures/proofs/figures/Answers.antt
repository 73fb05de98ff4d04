-- `figures` meets its contract: the figures of a good plan, or its refusal handed on. Assumes nothing.
use Rattle.refusals.proofs.RefusalLaws.{handed_on}
use Rattle.figures.proofs.AnswersLaws.{answered_good, answered_not}
use Rattle.plan.proofs.PlanLaws.{good_bounds}
use mathlib.Core.Path.{sym}
use Rattle.figures.proofs.figures.Goals as goal

pub of_good-requires : goal.of_good-requires
of_good-requires c = good_bounds _ (sym c.in_ok-check.ensures)

pub returns : goal.returns
returns c = answered_good _ (sym c.in_ok-check.ensures) c.of_good.ensures

pub returns-in_err-check : goal.returns-in_err-check
returns-in_err-check c = rw (handed_on _ c.from_residual.ensures.1) (answered_not _ (sym c.in_err-check.ensures))
