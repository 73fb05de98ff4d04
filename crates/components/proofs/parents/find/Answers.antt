use native.Mathlib.Omega.{arith}
use Rattle.components.specs.Parents.{seeks_own, seeks_more, seeks_found}
use Rattle.components.proofs.parents.find.Goals as goal

pub loop-up-init : goal.loop-up-init
loop-up-init c = seeks_own c.requires.0 c.requires.1 c.row_at-up.ensures

pub row_at-over-requires : goal.row_at-over-requires
row_at-over-requires c = omega (arith, c.loop-up.invariant.low, c.loop-up.invariant.near, c.loop-up.invariant.start, c.loop-up.invariant.long)

pub put_row-requires : goal.put_row-requires
put_row-requires c = omega (arith, c.loop-up.invariant.near, c.loop-up.invariant.start, c.loop-up.invariant.long)

pub row_at-up-requires-in-loop-up : goal.row_at-up-requires-in-loop-up
row_at-up-requires-in-loop-up c = omega (arith, c.row_at-over.ensures, c.loop-up.invariant.next_low, c.loop-up.invariant.low, c.loop-up.invariant.near, c.loop-up.invariant.start, c.loop-up.invariant.long, c.put_row.auto.list)

pub loop-up-smaller : goal.loop-up-smaller
loop-up-smaller c = omega (arith, c.row_at-over.ensures, c.loop-up.invariant.next_low, c.loop-up-test.true)

pub loop-up-preserved : goal.loop-up-preserved
loop-up-preserved c = seeks_more c.loop-up.invariant c.row_at-over.ensures c.put_row.ensures c.row_at-up-in-loop-up.ensures

pub shape_of-parent : goal.shape_of-parent
shape_of-parent c = c.loop-up.invariant.long

pub returns : goal.returns
returns c = seeks_found c.loop-up.invariant c.loop-up-test.false
