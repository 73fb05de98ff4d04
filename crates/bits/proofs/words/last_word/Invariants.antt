-- `bits::words::last_word` meets its contract. The invariant: `word` has the k bytes from byte i on.
use Rattle.bits.specs.Words.{Lanes}
use Rattle.bits.proofs.words.last_word.Given as goal

abbrev pub invariant-loop-k : goal.invariant-loop-k
invariant-loop-k l = Lanes l.marks l.i l.k l.word
