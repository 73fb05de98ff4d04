-- Marked places in a row, whose top rows and bottom rows follow on each other: they are noted in two sweeps over the tallies.
-- Main results: stretch_low and stretch_high (how far the rows follow), run_notes (the sweeps note the places), ones_due (a word of ones).
use Rattle.std.specs.Prelude.{◌≡◌, true, List, ℕ, zero, suc, ◌+◌, ◌-◌, ◌*◌, ◌^◌, ◌≤◌, ◌<◌, leb, get_or, set}
use Rattle.std.proofs.Math.Path.{refl, subst}
use Rattle.std.proofs.Common.{sym, ◌∙◌, ap, mod-lt, add-one, arith, leb-true}
use Rattle.plan.specs.Layout.{bottom_row}
use Rattle.code.specs.Codewords.{bit_of}
use Rattle.code.specs.Marks.{mark}
use Rattle.code.proofs.Laws.MarksLaws.{bit_not}
use Rattle.bits.specs.Lowest.{bit_beyond}
use Rattle.bits.specs.Words.{Word}
use Rattle.tables.specs.Picture.{tally_unit}
use Rattle.tables.specs.Sizes.{∈_good}
use Rattle.tables.specs.Sweeps.{Apart, Room, Swept, swept_none, swept_more, swept_same}
use Rattle.tables.specs.Spots.{Stands, Reached}
use Rattle.tables.proofs.Spots.{bottom_low, bottom_high}
use Rattle.tables.specs.Counting.{All, Due, Notes, Ready, Noted}
use Rattle.tables.proofs.Counting.{noted, due_here, due_long, notes_none, notes_at, notes_then, noted_notes}
use Rattle.tables.specs.Scan.{Lent, Scanned, to_note}
use Rattle.tables.proofs.Scan.{erased_noted, scanned_notes, ∈_noted, marked_inside}
use Rattle.tables.proofs.WordWalk.{only_one}
use Rattle.tables.specs.Stretches.{Run, Stretch, added}

pub stretch_low : {t p k m : ℕ} → k + m ≤ t → p ≤ k → Stretch t p k m
stretch_low {t} {p} {k} {m} h l =
    record {
      within = h;
      straight = λ i g. bottom_low t p (k + i) (omega arith) (omega arith) ∙ let e : t + (k + i - p) ≡ t + (k - p) + i = omega arith in
          e ∙ ap (λ y. y + i) (sym (bottom_low t p k (omega arith) l));
    }

pub stretch_high : {t p k m : ℕ} → p < t → k + m ≤ p → 0 < m → Stretch t p k m
stretch_high {t} {p} {k} {m} h l s =
    record {
      within = omega arith;
      straight = λ i g. bottom_high t p (k + i) h (omega arith) ∙ let e : t + (k + i + t - p) ≡ t + (k + t - p) + i = omega arith in
          e ∙ ap (λ y. y + i) (sym (bottom_high t p k h (omega arith)));
    }

-- the rows of the places are two parts of a table
pub stretch_apart : {t p k m : ℕ} → Stretch t p k m → 0 < m → Apart k (bottom_row t p k) m (2 * t)
unfolding bottom_row
stretch_apart {t} {p} {k} {m} S h =
    let g : 0 < t = omega (arith, S.within) in
    record { order = omega (arith, S.within); end = omega (arith, S.straight (m - 1) (omega arith), mod-lt (k + (m - 1) + t - p) g) }

-- what the sweep needs, at rows h and b and weight w
module _ {t p c j k m : ℕ} {tally : List ℕ} (E : Ready t p c j k tally) (X : Stretch t p k m) where
  pub run_apart : {h b l : ℕ} → 0 < m → h ≡ k → b ≡ bottom_row t p k → l ≡ 2 * t → Apart h b m l
  run_apart g eh eb el = let A = stretch_apart X g in record { order = omega (arith, A.order); end = omega (arith, A.end) }

  pub run_room : {w : ℕ} → w ≡ tally_unit + j → Room w tally
  run_room e = record { each = λ r h. omega (arith, E.room r (omega (arith, E.long)), E.section) }

pub run : {t p j k m h b w : ℕ} {tally tally' : List ℕ} → h ≡ k → b ≡ bottom_row t p k → w ≡ tally_unit + j
    → Swept (added w) h b m tally tally' → Run t p j k m tally tally'
run eh eb ew l = record { swept = rw (eh, eb, ew) at l }

-- the first i of them noted, one after the other
record Done (n t : ℕ) (shifts : List ℕ) (c p j k i : ℕ) (tally : List ℕ) : Type 0 where
  tally' : List ℕ
  swept : Swept (added (tally_unit + j)) k (bottom_row t p k) i tally tally'
  notes : Notes n t shifts c (c + i) tally tally'

module _ {n t : ℕ} {shifts : List ℕ} {c j begin end p m : ℕ} {tally : List ℕ} (D : Due n t shifts c (c + m) tally)
    (R : Reached n t shifts c j begin end p) (X : Stretch t p (c - begin) m) (some : 0 < m) where
  pub stretch_ready : Ready t p c j (c - begin) tally
  stretch_ready = due_here D (omega arith) R (omega (arith, R.ends, R.passed, X.within))

  k : ℕ
  k = c - begin

  b : ℕ
  b = bottom_row t p (c - begin)

  Here : ℕ → Type 0
  Here i = Done n t shifts c p j (c - begin) i tally

  none : Here 0
  unfolding Here
  none =
      record {
        tally' = tally;
        swept = swept_none (added (tally_unit + j)) (c - begin) (bottom_row t p (c - begin)) tally;
        notes = notes_at (omega arith) notes_none;
      }

  more : (i : ℕ) → i < m → Here i → Here (i + 1)
  unfolding Here k b
  more i h O =
      record {
        tally' = tally₂;
        swept = swept_more tally₁ tally₂ O.swept high (low (due_long D)) refl refl;
        notes = notes_at (omega arith) (notes_then (omega arith) (omega arith) O.notes (noted_notes D.good st note));
      }
    where
      A : Apart (c - begin) (bottom_row t p (c - begin)) m (2 * t)
      A = stretch_apart X some

      high : k + i < b
      high = omega (arith, A.order)

      low : {l : ℕ} → l ≡ 2 * t → b + i < l
      low e = omega (arith, A.end)

      tally₁ : List ℕ
      tally₁ = set O.tally' (k + i) (get_or O.tally' (k + i) 0 + (tally_unit + j))

      tally₂ : List ℕ
      tally₂ = set tally₁ (b + i) (get_or tally₁ (b + i) 0 + (tally_unit + j))

      st : Stands t (c + i) j (k + i)
      st = record { whole = omega (arith, R.begins, R.passed); within = omega (arith, X.within) }

      plain : Noted t p j (k + i) O.tally' tally₂
      plain = noted refl (sym (X.straight i h)) refl refl refl

      note : Noted t (get_or shifts j 0) j (k + i) O.tally' tally₂
      note = subst (λ z. Noted t z j (k + i) O.tally' tally₂) R.shift plain

  upto : (i : ℕ) → i ≤ m → Here i
  upto zero h = none
  upto (suc i) h = subst Here (add-one i) (more i (omega arith) (upto i (omega arith)))

  -- the sweeps note them all
  pub run_notes : {tally' : List ℕ} → Run t p j (c - begin) m tally tally' → Notes n t shifts c (c + m) tally tally'
  unfolding Here
  run_notes {tally'} U =
      let O : Done n t shifts c p j (c - begin) m tally = upto m (omega arith) in
      subst (λ z. Notes n t shifts c (c + m) tally z) (swept_same O.swept U.swept) O.notes

-- a word of ones: all its places are to be noted
module _ {n t : ℕ} {shifts marks : List ℕ} {a c w : ℕ} {tally : List ℕ} (lent : Lent n t shifts marks) (S : Scanned n t shifts marks a c tally)
    (W : Word marks a c w) (e : w ≡ 2 ^ 64 - 1) where
  bit : (b : ℕ) → b < 64 → (leb a (c + b) ≡ true) × (mark marks (c + b) ≡ 1)
  bit b h =
      only_one (leb a (c + b)) (mark marks (c + b))
      (sym (W.each b h) ∙ ap (bit_of b) e ∙ bit_not 64 b 0 h (omega arith) ∙ ap (λ y. 1 - y) (bit_beyond 0 b 0 (omega arith) (omega arith)))

  ones_all : All (to_note n t shifts marks a) c (c + 64)
  ones_all d h l =
      let q : c + (d - c) ≡ d = omega arith in
      let o = bit (d - c) (omega arith) in
      let m : mark marks d ≡ 1 = ap (mark marks) (sym q) ∙ o.1 in
      ∈_noted n t shifts marks a (∈_good lent.good (marked_inside lent d m)) m (omega (arith, leb-true a (c + (d - c)) o.0))

  pub ones_due : Due n t shifts c (c + 64) tally
  ones_due = record { good = lent.good; E = to_note n t shifts marks a; erased = erased_noted n t shifts marks a; all = ones_all; seen = S.seen }

  pub ones_noted : {tally' : List ℕ} → Notes n t shifts c (c + 64) tally tally' → Scanned n t shifts marks a (c + 64) tally'
  ones_noted N = scanned_notes S ones_all N
