-- `put_digit` meets its contract: passed, or a leading zero. Assumes nothing.
use native.Mathlib.Omega.{arith}
use Rattle.pieces.specs.ShortLaws.{leading_passed, leading_zero}
use Rattle.pieces.proofs.digits.put_digit.Goals as goal

pub returns-then-q-gt0 : goal.returns-then-q-gt0
returns-then-q-gt0 c = λ l from a. leading_passed c.args.q _ a (omega arith) (omega arith) (omega arith) (omega arith) (omega arith)

pub returns : goal.returns
returns c = λ l from a. leading_zero c.args.q _ a (omega arith) (omega arith)
