-- `none_from` meets its contract: the rest of the first byte decides, or the bytes after it. Assumes nothing.
use mathlib.Core.Path.{sym, ◌∙◌}
use native.Mathlib.Omega.{arith}
use Rattle.stretches.specs.ByteLaws.{none_past, none_clear, none_set}
use Rattle.stretches.specs.StretchLaws.{zero_rest}
use Rattle.stretches.proofs.none_from.Goals as goal

pub returns-then-marks-i : goal.returns-then-marks-i
returns-then-marks-i c = sym (none_past _ _ (omega arith))

pub returns-then-marks-i-ne0 : goal.returns-then-marks-i-ne0
returns-then-marks-i-ne0 c = none_set _ _ c.if-marks-i.false (c.type_inv.marks _).fits c.if-marks-i-ne0.true

pub returns : goal.returns
returns c =
    let byte = c.type_inv.marks in
    c.zero_bytes.ensures
    ∙ zero_rest _ _ (omega arith) (λ i. (byte i).fits)
    ∙ none_clear _ _ c.if-marks-i.false (byte _).fits c.if-marks-i-ne0.false
