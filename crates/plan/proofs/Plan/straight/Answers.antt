-- `Plan::straight` meets its contract: each answer by the test that gives it. Assumes nothing.
use Rattle.plan.proofs.Answers.{failed, passed, straight_size, straight_not, straight_made}
use Rattle.plan.proofs.PlanLaws.{size_fitting}
use mathlib.Core.Path.{ap, ◌∙◌}
use Rattle.std.specs.Prelude.{Ok}
use native.Mathlib.Omega.{arith}
use Rattle.std.proofs.lemmas.Bool.{not_from_false, not_from_true}
use Rattle.plan.proofs.Plan.straight.Goals as goal

pub returns-then-not-size_fits : goal.returns-then-not-size_fits
returns-then-not-size_fits c =
    straight_size _ _ (failed _ c.size_fits.ensures (not_from_false _ c.if-not-size_fits.true))

pub returns-then-t-n : goal.returns-then-t-n
returns-then-t-n c =
    straight_not _ _ (passed _ c.size_fits.ensures (not_from_true _ c.if-not-size_fits.false)) (omega arith)

pub counting-requires : goal.counting-requires
counting-requires c = (size_fitting _ _ (passed _ c.size_fits.ensures (not_from_true _ c.if-not-size_fits.false))).n_max

pub returns : goal.returns
returns c =
    ap Ok (c.good.ensures _ c.counting.ensures)
    ∙ straight_made _ _ (passed _ c.size_fits.ensures (not_from_true _ c.if-not-size_fits.false)) (omega arith)
