use mathlib.Core.Path.{refl}
use native.Mathlib.Omega.{arith}
use lib.ListN.{length-set}
use Rattle.starts.specs.Starts.{appended_none, appended_more}
use Rattle.starts.proofs.append.Goals as goal

pub loop-k-init : goal.loop-k-init
loop-k-init c = (appended_none c.args.queue.now c.args.list.now c.args.tail, refl)

pub loop-k-preserved : goal.loop-k-preserved
loop-k-preserved c = (appended_more c.loop-k.invariant.0 (omega (arith, c.loop-k.invariant.1, c.requires.0)) refl refl, simp length-set (omega arith))
