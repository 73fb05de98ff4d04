-- Each command by its own constructor; no other command makes a plan. Assumes nothing.
use mathlib.Core.Path.{sym, ◌∙◌}
use mathlib.Core.Bool.{true≢false}
use Rattle.state.proofs.Tags.{tag_makes_none}
use Rattle.act.proofs.ActLaws.{blank_makes, straight_makes, powers_makes, ruler_makes, makes_by}
use Rattle.act.proofs.plans.made.Goals as goal

pub returns-in-NewPlan : goal.returns-in-NewPlan
returns-in-NewPlan c = makes_by c.in-NewPlan.is c.blank.ensures (blank_makes _ _)

pub returns-in-Straight : goal.returns-in-Straight
returns-in-Straight c = makes_by c.in-Straight.is c.straight.ensures (straight_makes _ _)

pub returns-in-Powers : goal.returns-in-Powers
returns-in-Powers c = makes_by c.in-Powers.is c.powers.ensures (powers_makes _ _ _)

pub returns-in-Ruler : goal.returns-in-Ruler
returns-in-Ruler c = makes_by c.in-Ruler.is c.ruler.ensures (ruler_makes _)

pub returns-in_default : goal.returns-in_default
returns-in_default c =
    let d = c.in_default in
    absurd (true≢false (sym c.requires ∙ tag_makes_none _ d.not-NewPlan d.not-Straight d.not-Powers d.not-Ruler))
