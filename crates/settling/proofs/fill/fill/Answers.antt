use mathlib.Core.Path.{sym}
use Rattle.math.specs.Xor.{◌⊕◌}
use Rattle.settling.specs.Fill.{filled_none, filled_next}
use Rattle.settling.proofs.fill.fill.Goals as goal

pub loop-i-init : goal.loop-i-init
loop-i-init c = sym (filled_none _ _ _)

pub loop-i-preserved : goal.loop-i-preserved
unfolding ◌⊕◌
loop-i-preserved c = filled_next _ _ _ _ c.loop-i.invariant c.place_at-c.ensures
