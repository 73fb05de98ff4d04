-- `check` meets its contract. Assumes nothing.
use Prim.Native.Nat.{ℕ}
use mathlib.Core.Path.{sym, ◌∙◌, ap}
use native.Mathlib.Omega.{arith}
use lib.ListN.{length, length-replicate}
use Rattle.refusals.proofs.RefusalLaws.{handed_on}
use Rattle.plan.proofs.PlanLaws.{good_bounds}
use Rattle.promises.specs.Promises.{message_lent}
use Rattle.sealing.specs.Passing.{checks_stop, checks_lent}
use Rattle.sealing.proofs.check.Goals as goal

pub runs-requires : goal.runs-requires
runs-requires c = (good_bounds _ (sym c.in_ok-check.ensures), c.requires)

pub run_total-requires : goal.run_total-requires
run_total-requires c =
    let g = good_bounds _ (sym c.in_ok-check.ensures) in
    (g.n_max, omega (arith, g.n_max, c.runs.auto.r ∙ ap length c.requires ∙ length-replicate {A = ℕ} 32 0))

pub lengths_fit-fits-requires : goal.lengths_fit-fits-requires
lengths_fit-fits-requires c = let g = good_bounds _ (sym c.in_ok-check.ensures) in (g.places_max, g.t_max)

pub check_lent-requires : goal.check_lent-requires
check_lent-requires c = (good_bounds _ (sym c.in_ok-check.ensures)).places_max

pub returns-in_err-check : goal.returns-in_err-check
returns-in_err-check c = rw (handed_on _ c.from_residual.ensures.1) (checks_stop _ _ _ (sym c.in_err-check.ensures))

pub returns : goal.returns
unfolding message_lent
returns c = checks_lent _ _ _ _ (sym c.in_ok-check.ensures) c.runs.ensures c.run_total.ensures c.lengths_fit-fits.ensures c.check_lent.ensures
