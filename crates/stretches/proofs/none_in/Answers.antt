-- `none_in` meets its contract: a part that is not 0 decides, or the last part. Assumes nothing.
use mathlib.Core.Path.{refl}
use borrow.Author.Tests.{not-true, not-false}
use Rattle.stretches.specs.StretchLaws.{none_first, none_middle, none_last}
use Rattle.std.proofs.lemmas.Bool.{not_from_false, not_from_true}
use Rattle.stretches.proofs.none_in.Goals as goal

pub returns-then-part-ne0 : goal.returns-then-part-ne0
returns-then-part-ne0 c = none_first c.cut_of-cut.ensures _ c.part.ensures refl c.if-part-ne0.true

pub returns-then-not-zero_bytes : goal.returns-then-not-zero_bytes
returns-then-not-zero_bytes c =
    none_middle c.cut_of-cut.ensures _ c.part.ensures refl c.requires (λ j. (c.type_inv.marks j).fits) c.zero_bytes.ensures (not-true _ (not_from_false _ c.if-not-zero_bytes.true))

pub returns : goal.returns
returns c =
    none_last c.cut_of-cut.ensures _ c.part.ensures c.part-2.ensures c.requires (λ j. (c.type_inv.marks j).fits) c.zero_bytes.ensures c.if-part-ne0.false (not-false _ (not_from_true _ c.if-not-zero_bytes.false))
