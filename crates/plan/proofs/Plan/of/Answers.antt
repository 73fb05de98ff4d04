-- `Plan::of` meets its contract. Assumes nothing.
use Rattle.refusals.proofs.RefusalLaws.{handed_on}
use Rattle.std.specs.Prelude.{Ok}
use Rattle.plan.proofs.Answers.{failed, passed, shifts_long, of_size, of_refused, of_made}
use Rattle.plan.proofs.PlanLaws.{size_fitting}
use mathlib.Core.Path.{sym, ◌∙◌, ap}
use native.Mathlib.Omega.{arith}
use Rattle.std.proofs.lemmas.Bool.{not_from_false, not_from_true}
use Rattle.plan.proofs.Plan.of.Goals as goal

pub returns-then-not-size_fits : goal.returns-then-not-size_fits
returns-then-not-size_fits c = of_size _ _ _ (failed _ c.size_fits.ensures (not_from_false _ c.if-not-size_fits.true))

pub copied-requires : goal.copied-requires
copied-requires c =
    let f = size_fitting _ _ (passed _ c.size_fits.ensures (not_from_true _ c.if-not-size_fits.false)) in
    let l = shifts_long _ _ _ (sym c.in_ok-check_shifts.ensures) in
    omega arith

pub returns : goal.returns
returns c =
    ap Ok (c.good.ensures _ c.copied.ensures)
    ∙ of_made _ _ _ (passed _ c.size_fits.ensures (not_from_true _ c.if-not-size_fits.false)) (sym c.in_ok-check_shifts.ensures)

pub returns-in_err-check_shifts : goal.returns-in_err-check_shifts
returns-in_err-check_shifts c =
    handed_on _ c.from_residual.ensures.1
    ∙ of_refused _ _ _ (passed _ c.size_fits.ensures (not_from_true _ c.if-not-size_fits.false)) (sym c.in_err-check_shifts.ensures)
