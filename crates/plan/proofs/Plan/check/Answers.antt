-- `Plan::check` meets its contract. Assumes nothing.
use Rattle.plan.proofs.Answers.{check_size, check_shifts}
use Rattle.plan.proofs.PlanLaws.{size_fitting}
use lib.ListN.{length}
use lib.Seq.{length-take-le}
use mathlib.Core.Path.{◌≡◌, sym, ◌∙◌}
use native.Mathlib.Omega.{arith}
use borrow.Author.Rules.{rules}
use Rattle.plan.proofs.Plan.check.Goals as goal

pub returns-else-size_fits : goal.returns-else-size_fits
returns-else-size_fits c = check_size _ (sym c.size_fits.ensures ∙ c.if-size_fits.false)

pub slice_bounds-s-end : goal.slice_bounds-s-end
slice_bounds-s-end c =
    let f = size_fitting _ _ (sym c.size_fits.ensures ∙ c.if-size_fits.true) in
    let l : length c.args.self.shifts ≡ 32 = search rules in
    omega arith

pub slice_bounds-check_shifts-end : goal.slice_bounds-check_shifts-end
slice_bounds-check_shifts-end c =
    let f = size_fitting _ _ (sym c.size_fits.ensures ∙ c.if-size_fits.true) in
    let l : length c.args.self.shifts ≡ 32 = search rules in
    sym (length-take-le _ _ (omega arith))

pub returns-then-size_fits : goal.returns-then-size_fits
returns-then-size_fits c = check_shifts _ (sym c.size_fits.ensures ∙ c.if-size_fits.true) c.check_shifts.ensures
