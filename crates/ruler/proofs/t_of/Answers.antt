-- `ruler::t_of` meets its contract: the code's table is that of the rulers, with zeros past each. Assumes nothing.
use Rattle.std.proofs.Common.{◌∙◌}
use Rattle.ruler.specs.Ruler.{rulers}
use Rattle.ruler.proofs.RulerLaws.{filled, filled_t}
use Rattle.ruler.proofs.t_of.Goals as goal

pub returns : goal.returns
unfolding filled rulers
returns c = c.from.ensures ∙ filled_t c.args.n c.requires.0 c.requires.1
