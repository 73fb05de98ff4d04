-- `check_state` meets its contract. Assumes nothing.
use mathlib.Core.Path.{◌≡◌, refl, sym, subst, ap, ◌∙◌}
use native.Mathlib.Omega.{arith}
use Rattle.std.specs.Prelude.{is_some}
use Rattle.refusals.proofs.RefusalLaws.{handed_on}
use Rattle.plan.proofs.PlanLaws.{good_bounds}
use Rattle.standing.specs.StandingLaws.{held_none, held_stops, held_passes}
use Rattle.standing.proofs.check_state.Goals as goal

pub returns-in_default : goal.returns-in_default
returns-in_default c = held_none _ _ c.in_default.is c.check_lent.ensures

pub overflow_mul-plan : goal.overflow_mul-plan
overflow_mul-plan c = omega (arith, good_bounds _ (sym c.in_ok-check.ensures))

pub check_lent-requires-2 : goal.check_lent-requires-2
check_lent-requires-2 c = (good_bounds _ (sym c.in_ok-check.ensures)).places_max

pub returns-in_err-check : goal.returns-in_err-check
returns-in_err-check c = handed_on _ c.from_residual.ensures.1 ∙ held_stops _ _ c.in-Some.is (sym c.in_err-check.ensures)

pub returns : goal.returns
returns c = held_passes _ _ c.in-Some.is (sym c.in_ok-check.ensures) c.check_lent-2.ensures
