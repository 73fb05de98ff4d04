use mathlib.Core.Path.{◌∙◌}
use Prim.Native.Nat.{◌-◌}
use native.Mathlib.Omega.{arith}
use Rattle.quick.specs.QuickLaws.{shows_none, shows_both}
use Rattle.quick.proofs.shows.Goals as goal

pub loop-at-init : goal.loop-at-init
loop-at-init c = shows_none _ _ _ _ _ _ c.requires.2 c.requires.3

pub overflow_sub-bytes : goal.overflow_sub-bytes
overflow_sub-bytes c = c.loop-at.invariant.inside

pub show_one-next-requires : goal.show_one-next-requires
show_one-next-requires c = (c.requires.0, c.requires.1, omega (arith, c.loop-at.invariant.inside, c.loop-at-test.true), omega (arith, c.loop-at.invariant.room, c.loop-at.invariant.wrote.long))

pub shape_of-sheet-then-next-at : goal.shape_of-sheet-then-next-at
shape_of-sheet-then-next-at c = c.show_one-next.ensures.wrote.long ∙ c.loop-at.invariant.wrote.long

pub returns-then-next-at : goal.returns-then-next-at
returns-then-next-at c = shows_both c.loop-at.invariant c.show_one-next.ensures

pub loop-at-smaller : goal.loop-at-smaller
loop-at-smaller c = omega (arith, c.show_one-next.ensures.forwards, c.show_one-next.ensures.inside, c.if-next-at.false)

pub loop-at-preserved : goal.loop-at-preserved
loop-at-preserved c = shows_both c.loop-at.invariant c.show_one-next.ensures

pub shape_of-sheet : goal.shape_of-sheet
shape_of-sheet c = c.loop-at.invariant.wrote.long

pub returns : goal.returns
returns c = c.loop-at.invariant
