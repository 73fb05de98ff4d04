use mathlib.Core.Path.{refl, ◌∙◌}
use native.Mathlib.Omega.{arith}
use Rattle.components.specs.Walking.{descending_start, descending_more, descends_at, descends_none}
use Rattle.components.proofs.walk.descend.Goals as goal

pub loop-left-init : goal.loop-left-init
loop-left-init c = (descending_start _ c.requires.0, refl, refl)

pub step-passed-requires : goal.step-passed-requires
step-passed-requires c = (c.loop-left.invariant.0.walking, omega (arith, c.loop-left.invariant.1, c.loop-left-test.true))

pub shape_of-parent-then-passed-stop : goal.shape_of-parent-then-passed-stop
shape_of-parent-then-passed-stop c = c.step-passed.auto.parent ∙ c.loop-left.invariant.2

pub returns-then-passed-stop : goal.returns-then-passed-stop
returns-then-passed-stop c = descends_at c.step-passed.result.spot c.step-passed.result.closes c.loop-left.invariant.0 c.step-passed.ensures c.if-passed-stop.true

pub loop-left-smaller : goal.loop-left-smaller
loop-left-smaller c = omega (arith, c.step-passed.ensures.down, c.loop-left.invariant.1)

pub loop-left-preserved : goal.loop-left-preserved
loop-left-preserved c = (
  descending_more c.step-passed.result.spot c.step-passed.result.closes c.loop-left.invariant.0 c.step-passed.ensures c.if-passed-stop.false,
  refl,
  c.step-passed.auto.parent ∙ c.loop-left.invariant.2,
)

pub returns : goal.returns
returns c = descends_none _ c.loop-left.invariant.0 c.requires.1 (omega (arith, c.loop-left-test.false, c.loop-left.invariant.1))

pub shape_of-parent : goal.shape_of-parent
shape_of-parent c = c.loop-left.invariant.2
