-- `zeros::no_ones` meets its contract: `any` is the or of the tests passed.
use mathlib.Core.List.{map}
use Rattle.slices.specs.Zeros.{Gathers}
use Rattle.queue.specs.Ones.{one}
use Rattle.queue.proofs.zeros.no_ones.Given as goal

abbrev pub invariant-loop-x : goal.invariant-loop-x
invariant-loop-x l = Gathers (map one l.l) l.x-index l.any
