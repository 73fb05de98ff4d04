-- `step` meets its contract: the steps are laws of specs/Collecting. Assumes nothing.
use borrow.Author.Rules.{rules}
use Rattle.closings.specs.Collecting.{collecting_gap, collecting_bit, collecting_joinable, collecting_joins, collecting_closes}
use Rattle.closings.proofs.step.Goals as goal

pub returns-then-bit-eq0 : goal.returns-then-bit-eq0
returns-then-bit-eq0 c =
    let w = collecting_bit c.requires.0 c.back-at.ensures.0 c.back-at.ensures.1 (search rules) in
    (collecting_gap w c.back.ensures.0 c.back.ensures.1 c.gap-m.ensures, search rules)

pub join-closes-requires : goal.join-closes-requires
join-closes-requires c =
    let w = c.requires.0 in
    (w.good, collecting_joinable w c.back-at.ensures.0 c.back-at.ensures.1)

pub returns-then-closes : goal.returns-then-closes
returns-then-closes c =
    (collecting_closes c.requires.0 c.back-at.ensures.0 c.back-at.ensures.1 (search rules) c.join-closes.result c.if-closes.true c.join-closes.ensures c.set_mark.ensures, search rules)

pub returns : goal.returns
returns c =
    (collecting_joins c.requires.0 c.back-at.ensures.0 c.back-at.ensures.1 (search rules) c.join-closes.result c.if-closes.false c.join-closes.ensures, search rules)
