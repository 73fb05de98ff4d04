-- `sums::xor_into` meets its contract. The invariant: the first i symbols have their sum, the others are as they were.
use Rattle.tables.specs.Sweeps.{MappedTo, with_symbol}
use Rattle.sums.proofs.xor_into.Given as goal

abbrev pub invariant-loop-i : goal.invariant-loop-i
invariant-loop-i l = MappedTo (with_symbol l.src) l.initial.dst l.i l.dst
