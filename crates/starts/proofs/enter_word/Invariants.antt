-- `starts::enter_word` meets its contract. The invariant: the bits of `rest` are the marked places of the word that are still to be looked at.
use Prim.Native.Nat.{◌*◌}
use Rattle.tables.specs.WordWalk.{WordWalk}
use Rattle.starts.specs.Starts.{Starting}
use Rattle.starts.proofs.enter_word.Given as goal

abbrev pub invariant-loop-rest : goal.invariant-loop-rest
invariant-loop-rest l =
    WordWalk (λ c. Starting l.n l.t l.shifts l.marks l.tally l.queue l.list c l.tops l.bottoms) l.n l.t l.shifts l.marks 0 (8 * l.i) l.rest l.here.index l.here.begin l.here.end l.here.shift

abbrev pub decreases-loop-rest : goal.decreases-loop-rest
decreases-loop-rest l = l.rest
