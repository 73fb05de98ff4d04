-- The closing place shows its cycle; without one the erasures are a forest.
use Rattle.explaining.specs.Explains.{closed_at, closed_none, loosens_forest, loosens_shown}
use Rattle.explaining.proofs.loose.Goals as goal

pub returns-in_default : goal.returns-in_default
returns-in_default c = loosens_forest (closed_none _ _ c.in_default.is c.requires.closed)

pub returns : goal.returns
returns c = loosens_shown c.requires.lent c.show.ensures

pub show-requires-clause-closing : goal.show-requires-clause-closing
show-requires-clause-closing c = closed_at c.requires.lent c.in-Some.is c.requires.closed
