-- `check_call` meets its contract. Assumes nothing.
use Rattle.refusals.proofs.RefusalLaws.{handed_on}
use Rattle.calls.specs.Calls.{check_of}
use Rattle.calls.proofs.CallsLaws.{call_stop, call_lent}
use Rattle.plan.specs.Plans.{layout_of}
use Rattle.plan.proofs.PlanLaws.{good_bounds}
use mathlib.Core.Path.{sym, ◌∙◌}
use native.Mathlib.Omega.{arith}
use Rattle.calls.proofs.check_call.Goals as goal

pub message_length-count-requires : goal.message_length-count-requires
message_length-count-requires c = good_bounds _ (sym c.in_ok-check.ensures)

pub lengths_fit-requires : goal.lengths_fit-requires
lengths_fit-requires c = let g = good_bounds _ (sym c.in_ok-check.ensures) in (g.places_max, g.t_max)

pub overflow_mul-n : goal.overflow_mul-n
overflow_mul-n c = omega (arith, good_bounds _ (sym c.in_ok-check.ensures))

pub check_lent-requires : goal.check_lent-requires
check_lent-requires c = (good_bounds _ (sym c.in_ok-check.ensures)).places_max

pub returns-in_err-check : goal.returns-in_err-check
unfolding check_of
returns-in_err-check c = handed_on _ c.from_residual.ensures.1 ∙ call_stop _ _ _ (sym c.in_err-check.ensures)

pub returns : goal.returns
unfolding layout_of
returns c = call_lent _ _ _ _ (sym c.in_ok-check.ensures) c.check_lent.ensures c.lengths_fit.ensures c.message_length-count.ensures
