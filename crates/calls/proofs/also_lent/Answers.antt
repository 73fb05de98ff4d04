-- `also_lent` meets its contract. Assumes nothing.
use mathlib.Core.Path.{◌∙◌}
use Rattle.calls.proofs.CallsLaws.{also_fits, also_not}
use Rattle.calls.proofs.also_lent.Goals as goal

pub returns-then-fits : goal.returns-then-fits
returns-then-fits c = c.earlier.ensures ∙ also_fits _ c.if-fits.true

pub returns : goal.returns
returns c = c.earlier-2.ensures ∙ also_not _ c.if-fits.false
