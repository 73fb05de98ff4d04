use mathlib.Core.Path.{◌∙◌}
use Prim.Native.Nat.{◌-◌}
use native.Mathlib.Omega.{arith}
use Rattle.quick.specs.QuickLaws.{quiet_none, quiet_both}
use Rattle.quick.proofs.quiet.Goals as goal

pub loop-at-init : goal.loop-at-init
loop-at-init c = quiet_none _ _ _ _ _ c.requires.3

pub overflow_sub-bytes : goal.overflow_sub-bytes
overflow_sub-bytes c = c.loop-at.invariant.inside

pub quiet_one-next-requires : goal.quiet_one-next-requires
quiet_one-next-requires c = (c.requires.0, c.loop-at.invariant.block_long ∙ c.requires.1, c.loop-at.invariant.marks_long ∙ c.requires.2, omega (arith, c.loop-at.invariant.inside, c.loop-at-test.true))

pub shape_of-block-then-next-at : goal.shape_of-block-then-next-at
shape_of-block-then-next-at c = c.quiet_one-next.ensures.block_long ∙ c.loop-at.invariant.block_long

pub shape_of-bits-then-next-at : goal.shape_of-bits-then-next-at
shape_of-bits-then-next-at c = c.quiet_one-next.ensures.marks_long ∙ c.loop-at.invariant.marks_long

pub returns-then-next-at : goal.returns-then-next-at
returns-then-next-at c = quiet_both c.loop-at.invariant c.quiet_one-next.ensures

pub loop-at-smaller : goal.loop-at-smaller
loop-at-smaller c = omega (arith, c.quiet_one-next.ensures.forwards, c.quiet_one-next.ensures.inside, c.if-next-at.false)

pub loop-at-preserved : goal.loop-at-preserved
loop-at-preserved c = quiet_both c.loop-at.invariant c.quiet_one-next.ensures

pub shape_of-block : goal.shape_of-block
shape_of-block c = c.loop-at.invariant.block_long

pub shape_of-bits : goal.shape_of-bits
shape_of-bits c = c.loop-at.invariant.marks_long

pub returns : goal.returns
returns c = c.loop-at.invariant
