use Rattle.std.proofs.Common.{◌≡◌, refl, ◌+◌, ◌-◌, ◌*◌, ◌^◌, ◌%◌, ◌∙◌, length, get_or, take, drop, arith, get_or-take, get_or-drop, length-drop, length-take-le, shl_exact}
use Rattle.bits.specs.Words.{lanes_more, lanes_last}
use Rattle.bits.proofs.words.last_word.Goals as goal

pub loop-k-preserved : goal.loop-k-preserved
loop-k-preserved c =
    let m = c.args.marks.now in
    let i = c.args.i in
    let k = c.loop-k.k in
    let x = c.from.result in
    let rest = length m - i in
    let long : length (take rest (drop i m)) ≡ rest = length-take-le rest (drop i m) (rw length-drop (omega arith)) in
    let e : x ≡ get_or m (i + k) 0 = c.from.ensures ∙ get_or-take rest (drop i m) k 0 (omega arith) ∙ get_or-drop i m k 0 in
    let small = (c.type_inv.marks (i + k)).fits in
    let raised : x * 2 ^ (8 * k) % 2 ^ 64 ≡ get_or m (i + k) 0 * 2 ^ (8 * k) = rw e (shl_exact 8 (8 * k) 64 small (omega arith)) in
    lanes_more _ (x * 2 ^ (8 * k) % 2 ^ 64) c.loop-k.invariant small raised refl

pub returns : goal.returns
returns c =
    let m = c.args.marks.now in
    let i = c.args.i in
    let rest = length m - i in
    let long : length (take rest (drop i m)) ≡ rest = length-take-le rest (drop i m) (rw length-drop (omega arith)) in
    lanes_last c.loop-k.invariant (omega arith) (omega arith)
