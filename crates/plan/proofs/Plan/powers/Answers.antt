-- `Plan::powers` meets its contract: each answer by the test that gives it. Assumes nothing.
use Rattle.plan.proofs.Answers.{failed, passed, powers_size, powers_not, powers_made}
use Rattle.plan.proofs.PlanLaws.{size_fitting}
use mathlib.Core.Path.{ap, ◌∙◌}
use Rattle.std.specs.Prelude.{Ok}
use Rattle.std.proofs.lemmas.Bool.{not_from_false, not_from_true}
use Rattle.plan.proofs.Plan.powers.Goals as goal

pub returns-then-not-size_fits : goal.returns-then-not-size_fits
returns-then-not-size_fits c =
    powers_size _ _ _ (failed _ c.size_fits.ensures (not_from_false _ c.if-not-size_fits.true))

pub returns-then-not-powers_need : goal.returns-then-not-powers_need
returns-then-not-powers_need c =
    powers_not _ _ _ (passed _ c.size_fits.ensures (not_from_true _ c.if-not-size_fits.false)) (failed _ c.powers_need.ensures (not_from_false _ c.if-not-powers_need.true))

pub powers-requires : goal.powers-requires
powers-requires c =
    let f = size_fitting _ _ (passed _ c.size_fits.ensures (not_from_true _ c.if-not-size_fits.false)) in
    (f.n_max, f.t_min, f.t_max)

pub returns : goal.returns
returns c =
    ap Ok (c.good.ensures _ c.powers.ensures)
    ∙ powers_made _ _ _ (passed _ c.size_fits.ensures (not_from_true _ c.if-not-size_fits.false)) (passed _ c.powers_need.ensures (not_from_true _ c.if-not-powers_need.false))
