-- No plan is held before the first command.
use Prim.Native.Nat.{ℕ}
use lib.ListN.{replicate, length-replicate}
use Rattle.sheet.specs.RunningLaws.{held_ready}
use Rattle.sheet.proofs.run.Goals as goal

pub run_all-requires : goal.run_all-requires
run_all-requires c = held_ready _ (replicate 32768 0) (replicate 4096 0) (replicate 196624 0) c.start.ensures (length-replicate {A = ℕ} 32768 0) (length-replicate {A = ℕ} 4096 0) (length-replicate {A = ℕ} 196624 0)
