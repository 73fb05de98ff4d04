-- `bits::words::full_word` meets its contract: a number read from eight bytes.
use Rattle.bits.specs.Words.{lanes_read, lanes_full}
use Rattle.bits.proofs.words.full_word.Goals as goal

pub returns : goal.returns
returns c =
    let chunk = rw c.unwrap-bytes.ensures at c.try_into.ensures in
    lanes_full (lanes_read c.args.i 7 c.unwrap-bytes.result chunk.1.same (λ b. (c.type_inv.marks b).fits) c.from_le_bytes.ensures)
