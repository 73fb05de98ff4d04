-- A call that is refused leaves the list; one that passes lists. Assumes nothing.
use mathlib.Core.Path.{sym, ◌∙◌}
use borrow.Author.Tests.{eqb-true}
use Rattle.plan.specs.Layout.{layout}
use Rattle.plan.specs.Plans.{layout_of}
use Rattle.code.specs.Marks.{mark_bytes}
use Rattle.calls.proofs.CallsLaws.{pass_good, count_length, also_pass}
use Rattle.promises.specs.Promises.{fetch_check}
use Rattle.promises.proofs.Building.{fetches_refused, fetches_fetched}
use Rattle.refusals.proofs.RefusalLaws.{handed_on}
use Rattle.fetch.proofs.fetch.Goals as goal

pub listed-requires : goal.listed-requires
listed-requires c =
    let e = also_pass _ _ (sym c.in_ok-tested.ensures) in
    let long = count_length _ _ e.0 in
    (pass_good _ _ _ e.0, long, eqb-true _ _ e.1 ∙ sym long)

pub returns-in_err-tested : goal.returns-in_err-tested
unfolding fetch_check mark_bytes layout_of layout
returns-in_err-tested c = rw (handed_on _ c.from_residual.ensures.1) (fetches_refused _ _ _ (sym c.in_err-tested.ensures))

pub returns : goal.returns
unfolding fetch_check mark_bytes layout_of layout
returns c = fetches_fetched _ _ _ (sym c.in_ok-tested.ensures) c.listed.ensures
