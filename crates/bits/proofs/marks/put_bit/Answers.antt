-- `put_bit` meets its contract, by the laws of one bit set and one bit cleared. Assumes nothing.
use Rattle.std.proofs.Common.{arith, rules}
use Rattle.bits.specs.MarkedLaws.{marked_set, marked_clear}
use Rattle.bits.proofs.marks.put_bit.Goals as goal

pub returns-then-on : goal.returns-then-on
returns-then-on c = rw c.if-on.true (marked_set c.args.marks.now c.args.at (omega arith) (search rules))

pub returns : goal.returns
returns c = rw c.if-on.false (marked_clear c.args.marks.now c.args.at (omega arith) (search rules))
