use native.Mathlib.Omega.{arith}
use Rattle.components.specs.Back.{goes_start, goes_pos, goes_more, goes_end}
use Rattle.components.proofs.walk.back.Goals as goal

pub loop-offset-init : goal.loop-offset-init
loop-offset-init c = goes_start _ c.requires.0 c.requires.1

pub overflow_sub-section : goal.overflow_sub-section
overflow_sub-section c = omega (arith, goes_pos c.loop-offset.invariant c.loop-offset-test.true)

pub loop-offset-preserved : goal.loop-offset-preserved
loop-offset-preserved c = goes_more c.loop-offset.invariant c.loop-offset-test.true

pub returns : goal.returns
returns c = (goes_end c.loop-offset.invariant c.loop-offset-test.false, omega arith)
