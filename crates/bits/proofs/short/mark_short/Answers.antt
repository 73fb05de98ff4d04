-- `mark_short` meets its contract: the run lies in the four bytes, and its ones are put in their word. Assumes nothing.
use Rattle.std.proofs.Common.{arith, rules}
use Rattle.bits.specs.Short.{marked_short}
use Rattle.bits.proofs.short.mark_short.Goals as goal

pub returns : goal.returns
returns c =
    let a = c.args in
    marked_short a.start a.m _ _ c.four_bytes.ensures c.put_four.ensures c.run_mask.ensures (omega arith) (omega arith) (search rules)
