-- Nothing at hand, or the bytes within the bounds.
use Rattle.std.proofs.Common.{zero-add}
use Rattle.reading.specs.CursorLaws.{carried_none, carried_some}
use Rattle.reading.proofs.carry.Goals as goal

pub returns-then-end-at : goal.returns-then-end-at
returns-then-end-at c = carried_none _ _ _ c.min-end.ensures c.if-end-at.true

pub returns : goal.returns
returns c = carried_some _ _ _ c.min-end.ensures c.if-end-at.false (simp zero-add at c.copy_within.ensures.after)
