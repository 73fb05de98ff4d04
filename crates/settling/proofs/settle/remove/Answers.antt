-- `settle::remove` meets its contract. Assumes nothing.
use mathlib.Core.Path.{refl}
use Rattle.math.specs.Xor.{◌⊕◌}
use Rattle.settling.specs.Takes.{removes}
use Rattle.settling.proofs.settle.remove.Goals as goal

pub returns : goal.returns
unfolding ◌⊕◌
returns c = removes c.requires refl refl refl refl
