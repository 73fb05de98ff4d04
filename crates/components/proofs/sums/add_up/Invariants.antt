-- `sums::add_up` meets its contract. The invariant: the rows before r are added up. Assumes nothing.
use Rattle.components.specs.Lists.{Adds}
use Rattle.components.proofs.sums.add_up.Given as goal

abbrev pub invariant-loop-r : goal.invariant-loop-r
invariant-loop-r l = Adds l.rows l.parent l.sum l.total l.r
