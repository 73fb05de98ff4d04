-- The specimen table of document 01 as one fact, with 01's sample job and its sheet: bytes in, text out.
-- `SpecimenTable` is that fact; its one value is `specimen_table` of Proofs. Its other rows are `Specimens` (crate worked_examples).
use Rattle.std.specs.Prelude.{◌≡◌, List, [], ◌∷◌, ◌++◌, ℕ}
use Prim.Native.Char.{code}
use Prim.Native.String.{String, [] as nil, ◌∷◌ as ◌then◌}
use Rattle.turns.specs.Sheets.{Sheet, start}
use Rattle.worked_examples.specs.Examples.{Specimens}

-- the bytes of an ASCII text: the codes of its characters
unfoldable pub ascii : String → List ℕ
ascii nil = []
ascii (c then s) = code c ∷ ascii s

-- "Job in hex"
abbrev pub sample_job : List ℕ
sample_job =
    0x01 ∷ 0x03 ∷ 0x07 ∷ 0x00 ∷ 0x02 ∷ 0x01 ∷ 0x01 ∷ 0x00 ∷ 0x02 ∷ 0x02 ∷ 0x03 ∷ 0x00 ∷ 0x04 ∷ 0x00 ∷ 0x00 ∷ 0x04 ∷ 0x07 ∷ 0x00
    ∷ 0x04 ∷ 0x10 ∷ 0x00 ∷ 0x04 ∷ 0x02 ∷ 0x00 ∷ 0x04 ∷ 0x0A ∷ 0x00 ∷ 0x04 ∷ 0x11 ∷ 0x00 ∷ 0x06 ∷ 0x03 ∷ 0x00 ∷ 0x00 ∷ 0x05 ∷ 0x06
    ∷ 0x08 ∷ 0x11 ∷ 0x00 ∷ 0x03 ∷ 0x00 ∷ 0x00 ∷ 0x06 ∷ 0x06 ∷ []

-- "Sheet, whole", `\n` being the line feed that ends a line
abbrev pub sample_sheet : List ℕ
sample_sheet =
    ascii "loose 6 0 7 16 2 10 17\n"
    ++ ascii "recovered 5\n"
    ++ ascii "symbol 17 5\n"
    ++ ascii "crossed 1 0\n"
    ++ ascii "end\n"

-- "Proved of the rules, as one table under one fact"
pub record SpecimenTable : Type 0 where
  pub specimens : Specimens
  -- the sample job has this sheet
  pub sheet : Sheet 0 start sample_job sample_sheet
  -- and no other
  pub sheet_only : (text : List ℕ) → Sheet 0 start sample_job text → text ≡ sample_sheet
