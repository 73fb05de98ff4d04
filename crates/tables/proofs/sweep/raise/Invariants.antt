-- `tables::sweep::raise` meets its contract. The invariant: the entries passed have w added, the others are as they were.
use Rattle.tables.specs.Sweeps.{MappedTo}
use Rattle.tables.specs.Stretches.{added}
use Rattle.tables.proofs.sweep.raise.Given as goal

abbrev pub invariant-loop-entry : goal.invariant-loop-entry
invariant-loop-entry l = MappedTo (added l.w) l.initial.s l.entry-index l.s
