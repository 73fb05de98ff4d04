-- `sums::add_some` meets its contract. The invariants: the first i sums are made, the others are as they were; of the sum at i the first k symbols are added.
use mathlib.Core.Path.{◌≡◌}
use lib.ListN.{get_or}
use Rattle.sums.specs.SumLaws.{added, straight}
use Rattle.tables.specs.Sweeps.{MappedTo}
use Rattle.sums.proofs.add_some.Given as goal

abbrev pub invariant-loop-i : goal.invariant-loop-i
invariant-loop-i g l = MappedTo (added (straight l.t l.sections) g.row.K) l.initial.top l.i l.top

abbrev pub invariant-loop-k : goal.invariant-loop-k
invariant-loop-k g l = l.sum ≡ added (straight l.t l.sections) l.k l.i (get_or l.top l.i 0)
