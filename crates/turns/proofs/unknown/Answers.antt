-- `unknown` meets its contract. Assumes nothing.
use mathlib.Core.Path.{refl}
use Rattle.turns.proofs.TurnLaws.{on_unknown}
use Rattle.turns.proofs.unknown.Goals as goal

pub returns : goal.returns
returns c = λ v m b last p. on_unknown p c.stop.ensures.1 (record { held = c.stop.ensures.0; block = refl; marks = refl })
