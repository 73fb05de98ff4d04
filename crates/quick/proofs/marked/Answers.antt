use mathlib.Core.Path.{◌∙◌}
use mathlib.Core.List.{[]}
use Prim.Native.Nat.{◌-◌}
use native.Mathlib.Omega.{arith}
use Rattle.quick.specs.QuickLaws.{quiet_none, quiet_both}
use Rattle.quick.proofs.marked.Goals as goal

pub loop-at-init : goal.loop-at-init
loop-at-init c = λ v. quiet_none _ _ _ _ _ c.requires.2

pub overflow_sub-bytes : goal.overflow_sub-bytes
overflow_sub-bytes c = (c.loop-at.invariant []).inside

pub mark-next-requires : goal.mark-next-requires
mark-next-requires c = (c.requires.0, (c.loop-at.invariant []).marks_long ∙ c.requires.1, omega (arith, (c.loop-at.invariant []).inside, c.loop-at-test.true))

pub shape_of-bits-then-next-at : goal.shape_of-bits-then-next-at
shape_of-bits-then-next-at c = (c.mark-next.ensures []).marks_long ∙ (c.loop-at.invariant []).marks_long

pub returns-then-next-at : goal.returns-then-next-at
returns-then-next-at c = λ v. quiet_both (c.loop-at.invariant v) (c.mark-next.ensures v)

pub loop-at-smaller : goal.loop-at-smaller
loop-at-smaller c = omega (arith, (c.mark-next.ensures []).forwards, (c.mark-next.ensures []).inside, c.if-next-at.false)

pub loop-at-preserved : goal.loop-at-preserved
loop-at-preserved c = λ v. quiet_both (c.loop-at.invariant v) (c.mark-next.ensures v)

pub shape_of-bits : goal.shape_of-bits
shape_of-bits c = (c.loop-at.invariant []).marks_long

pub returns : goal.returns
returns c = c.loop-at.invariant
