-- `sums::gather` meets its contract. The invariant: the rows before s are passed, z of them written. Assumes nothing.
use Rattle.components.specs.Lists.{Gathers}
use Rattle.components.proofs.sums.gather.Given as goal

abbrev pub invariant-loop-s : goal.invariant-loop-s
invariant-loop-s l = Gathers l.rows l.parent l.q.0 l.witness l.z l.s
