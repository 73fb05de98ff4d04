-- `width` meets its contract: the record Widening is its invariant. Assumes nothing.
use Rattle.pieces.specs.DigitLoops.{Widening}
use Rattle.pieces.proofs.digits.width.Given as goal

abbrev pub invariant-loop-k : goal.invariant-loop-k
invariant-loop-k l = Widening l.n l.k l.power
