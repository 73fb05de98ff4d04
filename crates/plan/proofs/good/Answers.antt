-- `good` meets its contract: the record of the array is that of every list that the array holds. Assumes nothing.
use Rattle.plan.specs.Plans as plans
use mathlib.Core.Path.{◌∙◌, ap}
use Rattle.plan.proofs.good.Goals as goal

pub returns : goal.returns
unfolding plans.plan
returns c = λ s e. c.raw.ensures ∙ ap (plans.raw_plan _ _) e
