-- `Plan::message_count` meets its contract. Assumes nothing.
use Rattle.refusals.proofs.RefusalLaws.{handed_on}
use Rattle.plan.proofs.PlanLaws.{good_bounds, count_is, count_not}
use Rattle.plan.specs.Plans.{layout_of}
use mathlib.Core.Path.{sym, ◌∙◌}
use Rattle.plan.proofs.Plan.message_count.Goals as goal

pub message_places-requires : goal.message_places-requires
message_places-requires c = good_bounds _ (sym c.in_ok-check.ensures)

pub returns-clause-value : goal.returns-clause-value
unfolding layout_of
returns-clause-value c = count_is _ (sym c.in_ok-check.ensures) c.message_places.ensures

pub returns-in_err-check-clause-value : goal.returns-in_err-check-clause-value
returns-in_err-check-clause-value c = handed_on _ c.from_residual.ensures.1 ∙ count_not _ (sym c.in_err-check.ensures)
