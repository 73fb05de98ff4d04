-- `Plan::none` meets its contract. Assumes nothing.
use Rattle.plan.specs.Plans.{no_plan}
use borrow.Author.Rules.{rules}
use Rattle.plan.proofs.Plan.none.Goals as goal

pub returns : goal.returns
unfolding no_plan
returns c = search rules
