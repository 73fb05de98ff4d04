-- `queue::sweep_group` meets its contract. Assumes nothing.
use mathlib.Core.Path.{sym, ◌∙◌}
use Rattle.queue.specs.Queue.{sweep_none}
use Rattle.queue.proofs.sweep_group.Goals as goal

pub returns-then-no_ones : goal.returns-then-no_ones
returns-then-no_ones c = sweep_none c.requires (sym c.no_ones.ensures ∙ c.if-no_ones.true)
