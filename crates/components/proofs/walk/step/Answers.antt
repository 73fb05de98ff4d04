-- `walk::step` meets its contract: the steps are laws of specs/Walking. Assumes nothing.
use borrow.Author.Rules.{rules}
use Rattle.components.specs.Walking.{walking_joinable, stepped_gap, stepped_join}
use Rattle.components.proofs.walk.step.Goals as goal

pub returns-then-bit-eq0 : goal.returns-then-bit-eq0
returns-then-bit-eq0 c = stepped_gap c.requires.0 c.back.ensures.0 c.back-at.ensures.1 (search rules) c.back.ensures.1 c.gap-m.ensures

pub join-closes-requires : goal.join-closes-requires
join-closes-requires c = (c.requires.0.good, walking_joinable c.requires.0 c.back-at.ensures.0 c.back-at.ensures.1)

pub returns : goal.returns
returns c = stepped_join c.requires.0 c.back-at.ensures.0 c.join-closes.result c.back-at.ensures.1 (search rules) c.join-closes.ensures
