use mathlib.Core.Path.{◌∙◌, ap}
use Prim.Native.Nat.{ℕ, ◌+◌, ◌*◌}
use lib.ListN.{get_or}
use Rattle.math.specs.Xor.{◌⊕◌}
use Rattle.sums.specs.SumLaws.{straight, added_next, added_start}
use Rattle.sums.proofs.add_some.Goals as goal

pub loop-k-init : goal.loop-k-init
loop-k-init g c = added_start (straight c.args.t c.args.sections.now) c.loop-i.i _

pub loop-k-preserved : goal.loop-k-preserved
unfolding ◌⊕◌
loop-k-preserved g c =
    let i = c.loop-i.i in
    let k = c.loop-k.k in
    ap (λ (x : ℕ). x ⊕ get_or c.args.sections.now (k * c.args.t + i) 0) c.loop-k.invariant
    ∙ added_next (straight c.args.t c.args.sections.now) k i (get_or c.loop-i.top i 0)
