-- `Plan::blank` meets its contract. Assumes nothing.
use Rattle.plan.proofs.Answers.{failed, passed, blank_size, blank_made}
use Rattle.shifts.specs.ShiftsLaws.{padded_zeros}
use Rattle.plan.proofs.PlanLaws.{size_fitting}
use mathlib.Core.Path.{ap, ◌∙◌}
use Rattle.std.specs.Prelude.{Ok}
use Rattle.std.proofs.lemmas.Bool.{not_from_false, not_from_true}
use Rattle.plan.proofs.Plan.blank.Goals as goal

pub returns-then-not-size_fits : goal.returns-then-not-size_fits
returns-then-not-size_fits c = blank_size _ _ (failed _ c.size_fits.ensures (not_from_false _ c.if-not-size_fits.true))

pub returns : goal.returns
returns c =
    let size = passed _ c.size_fits.ensures (not_from_true _ c.if-not-size_fits.false) in
    ap Ok (c.good.ensures _ (padded_zeros _ (size_fitting _ _ size).n_max)) ∙ blank_made _ _ size
