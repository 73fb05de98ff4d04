-- `fumizhaki_verdict` meets its contract: the number of the verdict. Assumes nothing.
use mathlib.Core.Path.{◌∙◌, ap}
use Rattle.refusals.specs.Refusals.{check_number}
use Rattle.capi.proofs.fumizhaki_verdict.Goals as goal

pub returns : goal.returns
returns c = c.number.ensures ∙ ap check_number c.check.ensures
