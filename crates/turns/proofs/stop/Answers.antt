-- `stop` meets its contract. Assumes nothing.
use mathlib.Core.Path.{refl}
use Rattle.lines.proofs.LinesLaws.{wrote_at}
use Rattle.turns.proofs.TurnLaws.{says_refused}
use Rattle.turns.proofs.stop.Goals as goal

pub returns : goal.returns
returns c = (refl, says_refused _ _ _ c.number.ensures (wrote_at c.refused_line-count.ensures))
