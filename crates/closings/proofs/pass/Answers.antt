use mathlib.Core.Path.{refl, ◌∙◌}
use native.Mathlib.Omega.{arith}
use Rattle.closings.specs.Collecting.{collecting_end}
use Rattle.closings.proofs.pass.Goals as goal

pub overflow_mul-left : goal.overflow_mul-left
overflow_mul-left c = omega (arith, c.requires.good)

pub overflow_cast-walk : goal.overflow_cast-walk
overflow_cast-walk c = omega (arith, c.requires.good)

pub loop-left-init : goal.loop-left-init
loop-left-init c = (c.requires, refl, refl, refl)

pub step-walk-requires : goal.step-walk-requires
step-walk-requires c = let i = c.loop-left.invariant in (i.0, omega (arith, i.1, c.loop-left-test.true))

pub loop-left-smaller : goal.loop-left-smaller
loop-left-smaller c = omega (arith, c.step-walk.ensures.1, c.loop-left.invariant.1)

pub loop-left-preserved : goal.loop-left-preserved
loop-left-preserved c =
    let i = c.loop-left.invariant in
    (c.step-walk.ensures.0, refl, c.step-walk.auto.parent ∙ i.2, c.step-walk.auto.list ∙ i.3)

pub shape_of-parent : goal.shape_of-parent
shape_of-parent c = c.loop-left.invariant.2

pub shape_of-list : goal.shape_of-list
shape_of-list c = c.loop-left.invariant.3

pub returns : goal.returns
returns c = let i = c.loop-left.invariant in collecting_end i.0 (omega (arith, i.1, c.loop-left-test.false))
