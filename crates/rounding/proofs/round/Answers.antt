use native.Mathlib.Omega.{arith}
use Rattle.rounding.specs.OneRound.{rounding_start, rounding_end}
use Rattle.rounding.proofs.round.Goals as goal

pub loop-i-init : goal.loop-i-init
loop-i-init c = rounding_start c.requires

pub returns : goal.returns
returns c = rounding_end c.loop-i.invariant (omega arith)
