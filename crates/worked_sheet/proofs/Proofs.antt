-- The proof that 01's sample job has its sheet, command by command; main result: specimen_table.
-- The three recoveries are the four results of the specimen table, `Specimens`, whatever its value; the rest is computed.
use Rattle.std.specs.Prelude.{◌≡◌, get_or, set, drop}
use Rattle.std.proofs.Math.Path.{refl, sym, ap, fun_ext}
use Rattle.std.proofs.Common.{◌∙◌, subst, arith}
use mathlib.Core.List.{List, [], ◌∷◌, ◌++◌}
use Prim.Native.Nat.{ℕ, zero, suc}
use Rattle.std.proofs.Math.ListN.{length, replicate}
use Rattle.math.specs.Members.{is_in, from, up_to, keep}
use Rattle.math.specs.Padded.{padded}
use Rattle.bounds.specs.Bounds.{size_fits}
use Rattle.shifts.specs.Shifts as shifts
use Rattle.plan.specs.Layout.{layout}
use Rattle.plan.specs.Plans.{plan, no_plan, answered, blank_of, with_shift, layout_of}
use Rattle.plan.specs.declared.Plan.{Plan}
use Rattle.code.specs.Places.{places}
use Rattle.code.specs.Codewords.{at, bit_of}
use Rattle.code.specs.Marks.{mark, mark_bytes, erasures}
use Rattle.code.proofs.Laws.MarksLaws.{erasures_erased}
use Rattle.promises.specs.Promises.{Decides}
use Rattle.promises.proofs.Building.{decides_recovered, decides_loose, decides_crossed}
use Rattle.answers.specs.declared.Recovery.{Recovery}
use Rattle.answers.specs.declared.Recovery.TheVariants as recovery
use Rattle.commands.specs.Commands.{size_of, command_of, parsed}
use Rattle.commands.specs.declared.Command.TheVariants.{NewPlan, SetShift, SetSymbol, MarkOne, Recover, Show}
use Rattle.pieces.specs.Pieces.{fields, decimal, width_from}
use Rattle.lines.specs.Lines.{line, recovered_word, loose_word, crossed_word, symbol_word, end_word}
use Rattle.bits.specs.Bits.{Marked}
use Rattle.state.specs.State.{State, fresh, with_plan, with_block}
use Rattle.state.specs.Refusing.{early, refusal_of}
use Rattle.bits.specs.MarkedLaws.{Bytes, marked_set, marked_clear}
use Rattle.act.specs.Meaning.{Means}
use Rattle.act.proofs.RecoveringLaws.{recovering_by}
use Rattle.turns.specs.Sheets as sheets
use Rattle.turns.specs.Sheets.{Sheet, start}
use Rattle.one_sheet.specs.OneSheet.{one_sheet}
use Rattle.worked_examples.specs.Examples.{job, six_marks, five_marks, Specimens}
use Rattle.worked_examples.specs.ProofTests.{every, bytes_by_test}
use Rattle.worked_examples.proofs.Steps.{job_valid}
use Rattle.worked_examples.proofs.Proofs.{specimens}
use Rattle.worked_sheet.specs.Table.{ascii, sample_job, sample_sheet, SpecimenTable}

-- ---- the job's plan and its layout

-- n 3, t 7 with these shifts, and the state with this block and these marks
abbrev planned : ℕ → ℕ → ℕ → Plan
planned a b c = plan 3 7 (a ∷ b ∷ c ∷ [])

abbrev held : List ℕ → List ℕ → State
held v m = with_block (fresh (planned 0 1 3)) v m

-- zeros past the end of a list read as what is past it
get_or_zeros : (k : ℕ) (xs : List ℕ) (j : ℕ) → get_or (xs ++ replicate k 0) j 0 ≡ get_or xs j 0
get_or_zeros zero [] j = refl
get_or_zeros (suc k) [] zero = refl
get_or_zeros (suc k) [] (suc j) = get_or_zeros k [] j
get_or_zeros k (x ∷ xs) zero = refl
get_or_zeros k (x ∷ xs) (suc j) = get_or_zeros k xs j

-- so the plan's layout is that of its three shifts
same_layout : layout_of (planned 0 1 3) ≡ job
unfolding layout_of layout plan shifts.padded
same_layout = ap (λ f. record { n = 3; t = 7; sections = up_to 3; shift = f }) (fun_ext (get_or_zeros 29 (0 ∷ 1 ∷ 3 ∷ [])))

-- ---- marks

-- three bytes of mark bits
abbrev bits : ℕ → ℕ → ℕ → List ℕ
bits a b c = a ∷ b ∷ c ∷ []

all_bytes : Bytes (bits 0 0 0)
unfolding every
all_bytes = bytes_by_test (bits 0 0 0) refl

-- places 0, 7, 16, 2, 10 and 17 are marked, one by one
first : Marked (bits 0 0 0) 0 1 1 (bits 0x01 0 0)
first = marked_set (bits 0 0 0) 0 (omega arith) all_bytes

second : Marked (bits 0x01 0 0) 7 1 1 (bits 0x81 0 0)
second = marked_set (bits 0x01 0 0) 7 (omega arith) first.bytes

third : Marked (bits 0x81 0 0) 16 1 1 (bits 0x81 0 0x01)
third = marked_set (bits 0x81 0 0) 16 (omega arith) second.bytes

fourth : Marked (bits 0x81 0 0x01) 2 1 1 (bits 0x85 0 0x01)
fourth = marked_set (bits 0x81 0 0x01) 2 (omega arith) third.bytes

fifth : Marked (bits 0x85 0 0x01) 10 1 1 (bits 0x85 0x04 0x01)
fifth = marked_set (bits 0x85 0 0x01) 10 (omega arith) fourth.bytes

sixth : Marked (bits 0x85 0x04 0x01) 17 1 1 six_marks
sixth = marked_set (bits 0x85 0x04 0x01) 17 (omega arith) fifth.bytes

-- a symbol clears the mark of its place, set or not
cleared : Marked six_marks 0 1 0 five_marks
cleared = marked_clear six_marks 0 (omega arith) sixth.bytes

not_set : Marked (bits 0 0 0) 0 1 0 (bits 0 0 0)
not_set = marked_clear (bits 0 0 0) 0 (omega arith) all_bytes

none_marked : erasures job (bits 0 0 0) ≡ []
unfolding erasures mark bit_of places layout up_to from keep is_in
none_marked = refl

-- ---- what each command means

mark_means : (v : List ℕ) {m m' : List ℕ} {c : ℕ} → Marked m c 1 1 m' → Means (MarkOne c) (held v m) (held v m') []
unfolding Means with_block
mark_means v {m' = m'} d = (record { marks = m'; marked = d; state = refl }, refl)

symbol_means : (v : List ℕ) (x : ℕ) {m m' : List ℕ} {c : ℕ} → Marked m c 1 0 m' → Means (SetSymbol c x) (held v m) (held (set v c x) m') []
unfolding Means with_block
symbol_means v x {m' = m'} d = (record { marks = m'; marked = d; state = refl }, refl)

-- what recovery decides in the layout of the three shifts it decides in the plan's
by_plan : (m : List ℕ) {r : Recovery} {v v' w : List ℕ} → Decides job (erasures job m) v r v' w → Decides (layout_of (planned 0 1 3)) (erasures (layout_of (planned 0 1 3)) m) v r v' w
by_plan m {r} {v} {v'} {w} d = subst (λ L. Decides L (erasures L m) v r v' w) (sym same_layout) d

-- the four results, from any value of the specimen table
module _ (results : Specimens) where
  -- the recovered block
  abbrev whole : List ℕ
  whole = results.recovered.one

  loose_means : Means Recover (held (replicate 21 0) six_marks) (held (replicate 21 0) six_marks) (ascii "loose 6 0 7 16 2 10 17\n")
  unfolding Means with_block fresh line loose_word fields decimal width_from padded ascii
  loose_means = recovering_by (by_plan six_marks decided) refl refl
    where
      decided : Decides job (erasures job six_marks) (replicate 21 0) (recovery.Loose 6) (replicate 21 0) (padded 14 (0 ∷ 7 ∷ 16 ∷ 2 ∷ 10 ∷ 17 ∷ []))
      decided = unfold layout in decides_loose job_valid (erasures_erased job six_marks) results.cycle
          (λ k c. omega (arith, ap (λ l. at l 0) (results.cycle_only k c))) (results.loose.one, results.loose.has) refl

  recovered_means : Means Recover (held (set (replicate 21 0) 0 5) five_marks) (held whole (bits 0 0 0)) (ascii "recovered 5\n")
  unfolding Means with_block fresh plan line recovered_word fields decimal width_from mark_bytes layout_of layout ascii
  recovered_means =
      let count = ap (λ L. length (erasures L five_marks)) same_layout ∙ results.five_count in
      recovering_by (by_plan five_marks decided) (ap (λ k. line recovered_word (k ∷ [])) (sym count)) refl
    where
      decided : Decides job (erasures job five_marks) (set (replicate 21 0) 0 5) recovery.Recovered whole (replicate 14 0)
      decided = unfold layout in decides_recovered results.recovered.has results.recovered.only_one refl

  show_means : Means (Show 17) (held whole (bits 0 0 0)) (held whole (bits 0 0 0)) (ascii "symbol 17 5\n")
  unfolding Means with_block fresh line symbol_word fields decimal width_from ascii
  show_means = (refl, sym (ap (λ x. line symbol_word (17 ∷ x ∷ [])) results.symbol))

  crossed_means : Means Recover (held (set whole 0 6) (bits 0 0 0)) (held (set whole 0 6) (bits 0 0 0)) (ascii "crossed 1 0\n")
  unfolding Means with_block fresh line crossed_word fields decimal width_from padded ascii
  crossed_means = recovering_by (by_plan (bits 0 0 0) decided) refl refl
    where
      decided : Decides job (erasures job (bits 0 0 0)) (set whole 0 6) (recovery.Crossed 1) (set whole 0 6) (padded 14 (0 ∷ []))
      decided = unfold layout in decides_crossed job_valid (erasures_erased job (bits 0 0 0)) {l = 0 ∷ []} (rw none_marked results.crossed_rows) refl

  -- ---- the job from its last line back, each part with the offset of its first byte

  crossed_line : Sheet 39 (held whole (bits 0 0 0)) (drop 39 sample_job) (ascii "crossed 1 0\nend\n")
  unfolding parsed size_of command_of refusal_of early fresh plan with_block line end_word fields ascii
  crossed_line =
      sheets.goes_on (held (set whole 0 6) (bits 0 0 0)) [] _ (SetSymbol 0 6) refl refl (symbol_means whole 6 not_set)
      (sheets.goes_on (held (set whole 0 6) (bits 0 0 0)) (ascii "crossed 1 0\n") (ascii "end\n") Recover refl refl crossed_means sheets.ends)

  symbol_line : Sheet 36 (held whole (bits 0 0 0)) (drop 36 sample_job) (ascii "symbol 17 5\ncrossed 1 0\nend\n")
  unfolding parsed size_of command_of refusal_of early fresh plan with_block ascii
  symbol_line = sheets.goes_on (held whole (bits 0 0 0)) (ascii "symbol 17 5\n") _ (Show 17) refl refl show_means crossed_line

  recovered_line : Sheet 31 (held (replicate 21 0) six_marks) (drop 31 sample_job) (ascii "recovered 5\nsymbol 17 5\ncrossed 1 0\nend\n")
  unfolding parsed size_of command_of refusal_of early fresh plan with_block ascii
  recovered_line =
      sheets.goes_on (held (set (replicate 21 0) 0 5) five_marks) [] _ (SetSymbol 0 5) refl refl (symbol_means (replicate 21 0) 5 cleared)
      (sheets.goes_on (held whole (bits 0 0 0)) (ascii "recovered 5\n") _ Recover refl refl recovered_means symbol_line)

  loose_line : Sheet 30 (held (replicate 21 0) six_marks) (drop 30 sample_job) sample_sheet
  unfolding parsed size_of command_of refusal_of early fresh plan with_block ascii
  loose_line = sheets.goes_on (held (replicate 21 0) six_marks) (ascii "loose 6 0 7 16 2 10 17\n") _ Recover refl refl loose_means recovered_line

  marks : Sheet 12 (held (replicate 21 0) (bits 0 0 0)) (drop 12 sample_job) sample_sheet
  unfolding parsed size_of command_of refusal_of early fresh plan with_block
  marks =
      let zeros : List ℕ = replicate 21 0 in
      sheets.goes_on (held zeros (bits 0x01 0 0)) [] _ (MarkOne 0) refl refl (mark_means zeros first)
      (sheets.goes_on (held zeros (bits 0x81 0 0)) [] _ (MarkOne 7) refl refl (mark_means zeros second)
      (sheets.goes_on (held zeros (bits 0x81 0 0x01)) [] _ (MarkOne 16) refl refl (mark_means zeros third)
      (sheets.goes_on (held zeros (bits 0x85 0 0x01)) [] _ (MarkOne 2) refl refl (mark_means zeros fourth)
      (sheets.goes_on (held zeros (bits 0x85 0x04 0x01)) [] _ (MarkOne 10) refl refl (mark_means zeros fifth)
      (sheets.goes_on (held zeros six_marks) [] _ (MarkOne 17) refl refl (mark_means zeros sixth) loose_line)))))

  sheet_of : Sheet 0 start sample_job sample_sheet
  unfolding parsed size_of command_of refusal_of early size_fits Means start no_plan blank_of answered fresh plan with_shift with_plan with_block mark_bytes layout_of
  sheet_of =
      sheets.goes_on (fresh (planned 0 0 0)) [] _ (NewPlan 3 7) refl refl (refl, refl)
      (sheets.goes_on (fresh (planned 0 1 0)) [] _ (SetShift 1 1) refl refl (refl, refl)
      (sheets.goes_on (held (replicate 21 0) (bits 0 0 0)) [] _ (SetShift 2 3) refl refl (refl, refl) marks))

pub specimen_table : SpecimenTable
specimen_table = record { specimens = specimens; sheet = sheet_of specimens; sheet_only = λ text q. one_sheet q (sheet_of specimens) }
