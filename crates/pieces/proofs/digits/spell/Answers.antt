use Rattle.std.proofs.Common.{refl, arith}
use Rattle.pieces.specs.DigitLoops.{spelling_step}
use Rattle.pieces.proofs.digits.spell.Goals as goal

pub loop-i-preserved : goal.loop-i-preserved
loop-i-preserved c = spelling_step _ _ _ _ c.loop-i.invariant (omega arith) (omega arith) refl refl
