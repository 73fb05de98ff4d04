use Rattle.math.specs.Xor.{◌⊕◌}
use Rattle.components.specs.Lists.{adds_more}
use Rattle.components.proofs.sums.add_up.Goals as goal

pub loop-r-preserved : goal.loop-r-preserved
unfolding ◌⊕◌
loop-r-preserved c = rw c.row_at-q.ensures (adds_more c.loop-r.invariant (c.requires.3 c.loop-r.r c.loop-r-test.true))
