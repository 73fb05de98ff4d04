-- `spell` meets its contract: the record Spelling is its invariant. Assumes nothing.
use Rattle.pieces.specs.DigitLoops.{Spelling}
use Rattle.pieces.proofs.digits.spell.Given as goal

abbrev pub invariant-loop-i : goal.invariant-loop-i
invariant-loop-i l = Spelling l.initial.line l.at l.k l.n l.i l.rest l.line
