-- `tested` meets its contract. Assumes nothing.
use mathlib.Core.Path.{◌∙◌, ap}
use lib.Dec.{eqb}
use lib.ListN.{length}
use Rattle.refusals.specs.Refusals.{Check}
use Rattle.calls.specs.Calls.{also_lent}
use Rattle.calls.proofs.CallsLaws.{as_marks}
use Rattle.fetch.proofs.tested.Goals as goal

pub returns : goal.returns
returns c =
    let a = c.args in
    c.also_lent.ensures ∙ ap (λ (k : Check). also_lent k (eqb a.long (length a.marks.now))) c.check_marks-call.ensures ∙ as_marks a.plan a.marks.now a.long
