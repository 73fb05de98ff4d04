-- `bits::words::four_bytes` meets its contract: a number read from four bytes.
use Rattle.std.proofs.Common.{◌∙◌}
use Rattle.bits.specs.Words.{lanes_read}
use Rattle.bits.proofs.words.four_bytes.Goals as goal

pub returns : goal.returns
returns c =
    let chunk = rw c.unwrap-bytes.ensures at c.try_into.ensures in
    lanes_read c.args.i 3 c.unwrap-bytes.result chunk.1.same (λ b. (c.type_inv.marks b).fits) (c.from.ensures ∙ c.from_le_bytes.ensures)
