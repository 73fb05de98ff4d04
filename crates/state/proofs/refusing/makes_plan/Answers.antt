-- `makes_plan` meets its contract, arm by arm. Assumes nothing.
use mathlib.Core.Path.{sym, ap}
use Rattle.state.specs.Refusing.{makes_plan}
use Rattle.state.proofs.Tags.{tag_makes_none}
use Rattle.state.proofs.refusing.makes_plan.Goals as goal

pub returns-in-NewPlan : goal.returns-in-NewPlan
unfolding makes_plan
returns-in-NewPlan c = sym (ap makes_plan c.in-NewPlan.is)

pub returns-in-Straight : goal.returns-in-Straight
unfolding makes_plan
returns-in-Straight c = sym (ap makes_plan c.in-Straight.is)

pub returns-in-Powers : goal.returns-in-Powers
unfolding makes_plan
returns-in-Powers c = sym (ap makes_plan c.in-Powers.is)

pub returns-in-Ruler : goal.returns-in-Ruler
unfolding makes_plan
returns-in-Ruler c = sym (ap makes_plan c.in-Ruler.is)

pub returns-in_default : goal.returns-in_default
returns-in_default c =
    let d = c.in_default in
    sym (tag_makes_none _ d.not-NewPlan d.not-Straight d.not-Powers d.not-Ruler)
