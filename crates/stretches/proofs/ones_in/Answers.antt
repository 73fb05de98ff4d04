use Rattle.std.proofs.Common.{◌≡◌, ◌+◌, ◌-◌, get_or, take, drop, ap, ◌∙◌, get_or-take, get_or-drop, length-drop, length-take-le, arith}
use Rattle.std.specs.Int.Count.{ones}
use Rattle.stretches.specs.StretchLaws.{count_bytes, count_none_yet}
use Rattle.stretches.proofs.ones_in.Goals as goal

pub loop-byte-init : goal.loop-byte-init
loop-byte-init c = (omega arith, count_none_yet _ _)

pub loop-byte-preserved : goal.loop-byte-preserved
loop-byte-preserved c =
    let m = c.args.marks.now in
    let i = c.args.i in
    let j = c.loop-byte.byte-index in
    let k = i + c.args.n - i in
    let long = length-take-le k (drop i m) (rw length-drop (omega arith)) in
    let here : get_or (take k (drop i m)) j 0 ≡ get_or m (i + j) 0 = get_or-take k (drop i m) j 0 (omega arith) ∙ get_or-drop i m j 0 in
    let e = c.ones_of-sum.ensures.0 ∙ ap ones here in
    let s = count_bytes m i j (c.type_inv.marks (i + j)).fits in
    (omega (arith, c.ones_of-sum.ensures.1), omega arith)
