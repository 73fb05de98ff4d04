-- The specimen table of document 01, proved of the definitions: what a reader can hold against the paper, row by row. A row of document 02 says so.
-- `Specimens` is the table; its one value is `specimens` of Proofs. The sample job and its whole sheet join it in `SpecimenTable` (crate worked_sheet).
use Rattle.std.specs.Prelude.{◌≡◌, List, [], ◌∷◌, ℕ, ◌<◌, length, set, replicate}
use Rattle.plan.specs.Layout.{Layout, layout}
use Rattle.code.specs.Codewords.{at, Agrees, Single, TwoOrMore, None}
use Rattle.code.specs.Marks.{erasures}
use Rattle.code.specs.Cycles.{Cycle}
use Rattle.code.specs.Components.{Inconsistent}
use Rattle.code.specs.Messages.{Message, Lists, Carries}
use Rattle.code.specs.Figures.{Figures}
use Rattle.code.specs.Rounds.{Rounds}

-- the job's plan, "01 03 07 00 02 01 01 00 02 02 03 00": n 3, t 7, shifts 0 1 3
abbrev pub job : Layout
job = layout 3 7 (0 ∷ 1 ∷ 3 ∷ [])

-- the other plans, by n, t and shifts
abbrev pub straight : Layout
straight = layout 3 7 (0 ∷ 1 ∷ 2 ∷ [])

abbrev pub drum : Layout
drum = layout 3 4 (0 ∷ 1 ∷ 2 ∷ [])

abbrev pub three : Layout
three = layout 2 3 (0 ∷ 1 ∷ [])

abbrev pub equal : Layout
equal = layout 2 3 (0 ∷ 0 ∷ [])

abbrev pub four : Layout
four = layout 2 4 (0 ∷ 2 ∷ [])

-- the mark bits after "04 00 00 04 07 00 04 10 00 04 02 00 04 0A 00 04 11 00"
abbrev pub six_marks : List ℕ
six_marks = 0x85 ∷ 0x04 ∷ 0x03 ∷ []

-- and after "03 00 00 05", which clears the mark of place 0
abbrev pub five_marks : List ℕ
five_marks = 0x84 ∷ 0x04 ∷ 0x03 ∷ []

-- "Proved of the rules, as one table under one fact"
pub record Specimens : Type 0 where
  -- "the four results above", first "loose 6 0 7 16 2 10 17": these six are marked on the zero block
  pub six_marked : erasures job six_marks ≡ 0 ∷ 2 ∷ 7 ∷ 10 ∷ 16 ∷ 17 ∷ []
  pub loose : TwoOrMore (Agrees job (erasures job six_marks) (replicate 21 0))
  pub cycle : Cycle job (erasures job six_marks) (0 ∷ 7 ∷ 16 ∷ 2 ∷ 10 ∷ 17 ∷ [])
  -- and it is the only one, so no other list can be shown
  pub cycle_only : (k : List ℕ) → Cycle job (erasures job six_marks) k → k ≡ 0 ∷ 7 ∷ 16 ∷ 2 ∷ 10 ∷ 17 ∷ []
  -- "recovered 5": symbol 0 is 5 and its mark is cleared, "03 00 00 05"
  pub five_marked : erasures job five_marks ≡ 2 ∷ 7 ∷ 10 ∷ 16 ∷ 17 ∷ []
  pub five_count : length (erasures job five_marks) ≡ 5
  pub recovered : Single (Agrees job (erasures job five_marks) (set (replicate 21 0) 0 5))
  -- "symbol 17 5"
  pub symbol : at recovered.one 17 ≡ 5
  -- "crossed 1 0": no marks, symbol 0 of the recovered block is 6, "03 00 00 06"
  pub crossed : None (Agrees job [] (set recovered.one 0 6))
  pub crossed_rows : Inconsistent job [] (at (set recovered.one 0 6)) (0 ∷ [])
  -- "n 2, t 3, shifts 0 1: data place 0 only"
  pub message_three : Lists (Message three) (0 ∷ [])
  -- "data 9 seals to six 9s"
  pub carries : Carries three (replicate 6 9) (9 ∷ [])
  pub carries_only : (w : List ℕ) → Carries three w (9 ∷ []) → w ≡ replicate 6 9
  -- "shifts 0 0: data places 0 1 2"
  pub message_equal : Lists (Message equal) (0 ∷ 1 ∷ 2 ∷ [])
  -- "n 2, t 4, shifts 0 2: data places 0 1"
  pub message_four : Lists (Message four) (0 ∷ 1 ∷ [])
  -- "and marks 0 2 4 6 are loose on the zero block"
  pub loose_four : TwoOrMore (Agrees four (0 ∷ 2 ∷ 4 ∷ 6 ∷ []) (replicate 8 0))
  -- "marks 0 2 4 never"
  pub never_loose : (v : List ℕ) → ¬ (TwoOrMore (Agrees four (0 ∷ 2 ∷ 4 ∷ []) v))
  -- "n 3, t 7: shifts 0 1 3 give figures 13 13 13 6"
  pub figures_job : Figures job 13 13 13 6
  -- "shifts 0 1 2 give 13 13 13 4"
  pub figures_straight : Figures straight 13 13 13 4
  -- 02, N1: "straight shifts with n 3, t 4 go from 7 to 3", by the last section and the first
  pub figures_drum : Figures drum 7 3 3 4
  -- "t 1, two marks: loose on the zero block": any n, any two places; each shift is below t, so it is 0
  pub loose_one : (n : ℕ) (shifts : List ℕ) → ((j : ℕ) → j < n → at shifts j ≡ 0) → (c d : ℕ) → c < d → d < n →
      TwoOrMore (Agrees (layout n 1 shifts) (c ∷ d ∷ []) (replicate n 0))

-- beside the table: the rounds of the five marks (02, N5)
pub record RoundsSpecimen : Type 0 where
  pub five_rounds : Rounds job (erasures job five_marks) 3
