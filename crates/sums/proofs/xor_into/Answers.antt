use mathlib.Core.Path.{refl}
use native.Mathlib.Omega.{arith}
use Rattle.math.specs.Xor.{◌⊕◌}
use Rattle.sums.specs.SumLaws.{xored_all}
use Rattle.tables.specs.Sweeps.{mapped_more, mapped_all}
use Rattle.sums.proofs.xor_into.Goals as goal

pub loop-i-preserved : goal.loop-i-preserved
unfolding ◌⊕◌
loop-i-preserved c = mapped_more _ c.loop-i.invariant (omega arith) refl

pub returns : goal.returns
returns c = xored_all (mapped_all c.loop-i.invariant (omega arith)) c.requires
