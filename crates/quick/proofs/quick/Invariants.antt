-- Commands that write nothing and commands that show symbols in turn, as long as one was performed.
use mathlib.Core.Bool.{cond}
use Prim.Native.Nat.{◌+◌, ◌-◌}
use lib.ListN.{length}
use Rattle.quick.specs.Quick.{Quick}
use Rattle.quick.proofs.quick.Given as goal

abbrev pub invariant-loop-more : goal.invariant-loop-more
invariant-loop-more l = Quick l.places l.bytes l.initial.block l.initial.bits l.start l.initial.sheet l.filled l.block l.bits l.at l.sheet l.to

abbrev pub decreases-loop-more : goal.decreases-loop-more
decreases-loop-more l = length l.bytes - l.at + cond l.more 1 0
