use mathlib.Core.Path.{◌∙◌}
use Prim.Native.Nat.{◌-◌}
use native.Mathlib.Omega.{arith}
use Rattle.quick.specs.QuickLaws.{quick_none, quick_both, quick_less}
use Rattle.quick.proofs.quick.Goals as goal

pub loop-more-init : goal.loop-more-init
loop-more-init c = quick_none _ _ _ _ _ _ _ c.requires.3 c.requires.4

pub quiet-next-requires : goal.quiet-next-requires
quiet-next-requires c = (c.requires.0, c.loop-more.invariant.block_long ∙ c.requires.1, c.loop-more.invariant.marks_long ∙ c.requires.2, c.loop-more.invariant.inside)

pub shows-went-requires : goal.shows-went-requires
shows-went-requires c = (c.requires.0, c.quiet-next.ensures.block_long ∙ c.loop-more.invariant.block_long ∙ c.requires.1, c.quiet-next.ensures.inside, omega (arith, c.loop-more.invariant.room, c.loop-more.invariant.wrote.long))

pub loop-more-smaller : goal.loop-more-smaller
loop-more-smaller c = quick_less _ _ _ c.loop-more-test.true c.shows-went.ensures.inside (omega (arith, c.quiet-next.ensures.forwards, c.shows-went.ensures.forwards))

pub loop-more-preserved : goal.loop-more-preserved
loop-more-preserved c = quick_both c.loop-more.invariant c.quiet-next.ensures c.shows-went.ensures

pub shape_of-block : goal.shape_of-block
shape_of-block c = c.loop-more.invariant.block_long

pub shape_of-bits : goal.shape_of-bits
shape_of-bits c = c.loop-more.invariant.marks_long

pub shape_of-sheet : goal.shape_of-sheet
shape_of-sheet c = c.loop-more.invariant.wrote.long

pub returns : goal.returns
returns c = c.loop-more.invariant
