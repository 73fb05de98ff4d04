-- `starts::seed_marked` meets its contract: by the marks or by all rows.
use mathlib.Core.Path.{◌∙◌}
use Rattle.starts.specs.Starts.{startable_long}
use Rattle.starts.proofs.seed_marked.Goals as goal

pub seed-requires : goal.seed-requires
seed-requires c = (c.requires.lent.good.t_max, startable_long c.requires, c.seed_scattered.auto.queue ∙ c.requires.queue_long)
