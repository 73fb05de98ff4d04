-- `ruler::shifts_of` meets its contract: the code's table is that of the rulers, with zeros past each. Assumes nothing.
use Rattle.std.proofs.Common.{◌∙◌, ap}
use Rattle.shifts.specs.Shifts.{padded}
use Rattle.ruler.specs.Ruler.{rulers}
use Rattle.ruler.proofs.RulerLaws.{filled, filled_shifts}
use Rattle.ruler.proofs.shifts_of.Goals as goal

pub returns : goal.returns
unfolding filled rulers
returns c = c.copied.ensures ∙ ap padded (filled_shifts c.args.n c.requires.0 c.requires.1)
