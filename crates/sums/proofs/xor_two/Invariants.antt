-- `sums::xor_two` meets its contract. The invariant: the first i symbols have their sum, the others are as they were.
use Rattle.sums.specs.SumLaws.{with_two}
use Rattle.tables.specs.Sweeps.{MappedTo}
use Rattle.sums.proofs.xor_two.Given as goal

abbrev pub invariant-loop-i : goal.invariant-loop-i
invariant-loop-i l = MappedTo (with_two l.a l.b) l.initial.dst l.i l.dst
