use mathlib.Core.Path.{ap, sym}
use native.Mathlib.Omega.{arith}
use lib.ListN.{get_or, set}
use Rattle.math.specs.Xor.{◌⊕◌, ⊕_assoc}
use Rattle.tables.specs.Sweeps.{mapped_more}
use Rattle.sums.proofs.xor_two.Goals as goal

pub loop-i-preserved : goal.loop-i-preserved
unfolding ◌⊕◌
loop-i-preserved c = mapped_more _ c.loop-i.invariant (omega arith) (ap (set c.loop-i.dst c.loop-i.i) (sym (⊕_assoc (get_or c.loop-i.dst c.loop-i.i 0) (get_or c.args.a.now c.loop-i.i 0) (get_or c.args.b.now c.loop-i.i 0))))
