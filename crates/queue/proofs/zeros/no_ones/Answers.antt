use lib.ListN.{length-map}
use native.Mathlib.Omega.{arith}
use Rattle.slices.specs.Zeros.{gathers_all}
use Rattle.queue.specs.Ones.{gathers_ones, one}
use Rattle.queue.proofs.zeros.no_ones.Goals as goal

pub loop-x-preserved : goal.loop-x-preserved
loop-x-preserved c = rw c.from-any.ensures (gathers_ones c.args.l.now c.loop-x.invariant)

pub returns : goal.returns
returns c = gathers_all c.loop-x.invariant (omega (arith, length-map c.args.l.now one))
