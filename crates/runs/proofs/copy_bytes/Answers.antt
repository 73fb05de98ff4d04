use mathlib.Core.Path.{refl}
use native.Mathlib.Omega.{arith}
use lib.ListN.{length-set}
use Rattle.runs.specs.Laws.Copying.{copied_more, copied_done}
use Rattle.runs.proofs.copy_bytes.Goals as goal

pub loop-i-init : goal.loop-i-init
loop-i-init c = (refl, refl)

pub loop-i-preserved : goal.loop-i-preserved
loop-i-preserved c = (simp length-set (omega arith), copied_more _ _ _ _ c.loop-i.invariant.1 refl (omega arith) (omega arith))

pub returns : goal.returns
returns c = copied_done _ _ c.loop-i.i c.loop-i.invariant.1 (omega (arith, c.requires)) (omega arith)
