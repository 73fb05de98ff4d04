use mathlib.Core.Path.{refl, sym, ◌∙◌, ap, ap₂, subst}
use Prim.Native.Nat.{ℕ}
use native.Mathlib.Omega.{arith}
use Rattle.math.specs.Gcd.{gcd, gap}
use Rattle.runs.specs.Laws.Computing.{Known, known_start, known_more, known_fits, known_end}
use Rattle.runs.proofs.runs.Goals as goal

pub loop-j-init : goal.loop-j-init
loop-j-init c = subst (Known c.args.n c.args.t c.args.shifts.now _ _) (sym c.requires.1) (known_start _ _ _ c.requires.0 refl)

pub overflow_sub-r : goal.overflow_sub-r
overflow_sub-r c =
    let k = known_fits _ _ _ c.requires.0 c.abs_diff.result c.loop-j.invariant in
    omega (arith, k.0, k.1, c.share-h.ensures)

pub overflow_add-r : goal.overflow_add-r
overflow_add-r c =
    let k = known_fits _ _ _ c.requires.0 c.abs_diff.result c.loop-j.invariant in
    omega (arith, k.0, k.1, c.share-h.ensures)

pub overflow_cast-r : goal.overflow_cast-r
overflow_cast-r c =
    let k = known_fits _ _ _ c.requires.0 c.abs_diff.result c.loop-j.invariant in
    omega (arith, k.0, k.1, c.share-h.ensures, c.requires.0.t_max)

pub loop-j-preserved : goal.loop-j-preserved
unfolding gap
loop-j-preserved c =
    known_more _ _ _ c.requires.0 c.loop-j.invariant (omega arith)
    (c.share-h.ensures ∙ ap (λ (x : ℕ). gcd x c.loop-j.g) (c.abs_diff.ensures ∙ ap₂ gap c.from.ensures c.from-last.ensures))
    refl refl

pub returns : goal.returns
returns c = known_end _ _ _ c.requires.0 c.loop-j.invariant (omega arith)
