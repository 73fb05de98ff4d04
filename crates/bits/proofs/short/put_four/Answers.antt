-- `put_four` meets its contract: the bytes that are copied are the lowest of the word. Assumes nothing.
use Rattle.std.proofs.Common.{◌≡◌, refl, ◌∙◌, ap, take}
use Rattle.std.specs.Int.{to_le_bytes, w64}
use Rattle.bits.specs.Short.{stored_bytes, low_four}
use Rattle.bits.proofs.short.put_four.Goals as goal

pub returns : goal.returns
returns c =
    let w = c.args.word in
    let low : c.copy_from_slice.new.self ≡ take 4 (to_le_bytes w64 w) = c.copy_from_slice.ensures.after ∙ ap (take 4) c.to_le_bytes.ensures in
    rw low (stored_bytes (take 4 (to_le_bytes w64 w)) refl (low_four w) c.requires refl)
