use mathlib.Core.Path.{◌≡◌, refl, ◌∙◌, ap}
use Prim.Native.Nat.{ℕ, ◌<◌, ◌≤◌}
use native.Mathlib.Numerals.{add-one}
use native.Mathlib.Omega.{arith}
use Rattle.std.specs.Prelude.{List, length, take, get_or}
use Rattle.std.proofs.Common.{get_or-take, length-take-le}
use Rattle.runs.specs.Laws.Fronts.{total, total_more}
use Rattle.sealing.proofs.run_total.Goals as goal

-- an entry of the first n
front-entry : (n i : ℕ) (runs : List ℕ) → n ≤ length runs → i < length (take n runs) → get_or (take n runs) i 0 ≡ get_or runs i 0
front-entry n i runs h l = let e = length-take-le n runs h in get_or-take n runs i 0 (omega arith)

pub loop-run-init : goal.loop-run-init
unfolding total
loop-run-init c = (refl, omega arith)

pub overflow_add-sum : goal.overflow_add-sum
overflow_add-sum c =
    let i = c.loop-run.run-index in
    let e = front-entry c.args.n i c.args.runs.now c.requires.1 c.loop-run-test.true in
    let l = length-take-le c.args.n c.args.runs.now c.requires.1 in
    omega (arith, c.type_inv.runs i)

pub loop-run-preserved : goal.loop-run-preserved
loop-run-preserved c =
    let i = c.loop-run.run-index in
    let e = front-entry c.args.n i c.args.runs.now c.requires.1 c.loop-run-test.true in
    (rw add-one (omega (arith, total_more c.args.runs.now i)), omega (arith, c.type_inv.runs i))

pub returns : goal.returns
returns c =
    let l = length-take-le c.args.n c.args.runs.now c.requires.1 in
    let e : c.loop-run.run-index ≡ c.args.n = omega arith in
    c.loop-run.invariant.0 ∙ ap (total _) e
