-- The scan of the marks, a word of 64 at a time: the table tallies the erasures below the place that the scan has come to.
-- Main results: the steps within a word (noting_due, noting_more) and the end of the scan (scanned_end);
-- `to_note` selects the marked places from a place on.
use Rattle.std.specs.Prelude.{◌≡◌, ◌≢◌, List, ℕ, ◌+◌, ◌-◌, ◌*◌, ◌≤◌, ◌<◌, leb, length, replicate}
use Rattle.std.proofs.Common.{sym, ◌∙◌, ap, arith}
use Rattle.std.proofs.Math.Logic.{by_cases}
use Rattle.std.proofs.Math.Decide.{dec_lt}
use Rattle.std.specs.Int.Bits.{bit_and}
use Rattle.std.specs.Int.Count.{count_trailing_zeros}
use Rattle.math.specs.Members.{◌∈◌, Rising}
use Rattle.math.specs.MembersLaws.{rising_keep}
use Rattle.plan.specs.Layout.{layout}
use Rattle.code.specs.Places.{places}
use Rattle.code.specs.Marks.{mark, erasures, NoSpare}
use Rattle.code.specs.Laws.Forest.{Erased}
use Rattle.code.proofs.Laws.MarksLaws.{in_erasures, rising_erasures}
use Rattle.tables.specs.Picture.{Counted}
use Rattle.tables.specs.Spots.{Reached}
use Rattle.tables.specs.Sizes.{∈_good}
use Rattle.tables.specs.WordWalk.{Skips, WordWalk}
use Rattle.tables.proofs.WordWalk.{walk_late, walk_marked, walk_at, walk_more}
use Rattle.tables.specs.Counting.{from_place, All, Due, Notes}
use Rattle.tables.proofs.Counting.{in_from, from_in, seen_start, seen_at, seen_skip, seen_all}
use Rattle.bits.specs.Words.{Clear, past_last}
use Rattle.tables.specs.Scan.{Lent, Scanned, to_note}

pub noted_∈ : (n t : ℕ) (shifts marks : List ℕ) (a : ℕ) {c : ℕ} → c ∈ to_note n t shifts marks a → (c ∈ places (layout n t shifts)) × (mark marks c ≡ 1) × (a ≤ c)
unfolding to_note
noted_∈ n t shifts marks a {c} m =
    let k = from_in a (erasures (layout n t shifts) marks) m in
    let o = (in_erasures (layout n t shifts) marks c).0 k.0 in
    (o.0, o.1, k.1)

pub ∈_noted : (n t : ℕ) (shifts marks : List ℕ) (a : ℕ) {c : ℕ} → c ∈ places (layout n t shifts) → mark marks c ≡ 1 → a ≤ c → c ∈ to_note n t shifts marks a
unfolding to_note
∈_noted n t shifts marks a {c} m e h = in_from ((in_erasures (layout n t shifts) marks c).1 (m, e)) h

rising_noted : (n t : ℕ) (shifts marks : List ℕ) (a : ℕ) → Rising (to_note n t shifts marks a)
unfolding to_note from_place
rising_noted n t shifts marks a = rising_keep (λ c. leb a c) (rising_erasures (layout n t shifts) marks)

pub erased_noted : (n t : ℕ) (shifts marks : List ℕ) (a : ℕ) → Erased (layout n t shifts) (to_note n t shifts marks a)
erased_noted n t shifts marks a = record { rising = rising_noted n t shifts marks a; inside = λ c m. (noted_∈ n t shifts marks a m).0 }

pub scanned_at : {n t : ℕ} {shifts marks : List ℕ} {a c d : ℕ} {tally : List ℕ} → c ≡ d → Scanned n t shifts marks a c tally → Scanned n t shifts marks a d tally
scanned_at e S = record { seen = seen_at e S.seen }

-- the places from c to e are all to be noted, and are noted
pub scanned_notes : {n t : ℕ} {shifts marks : List ℕ} {a c e : ℕ} {tally tally' : List ℕ} → Scanned n t shifts marks a c tally
    → All (to_note n t shifts marks a) c e → Notes n t shifts c e tally tally' → Scanned n t shifts marks a e tally'
scanned_notes {n} {t} {shifts} {marks} {a} S A N = record { seen = N.notes (to_note n t shifts marks a) (erased_noted n t shifts marks a) A S.seen }

-- from c to c' no place is marked, or it is below a
pub scanned_skip : {n t : ℕ} {shifts marks : List ℕ} {a c : ℕ} {tally : List ℕ} (c' : ℕ) → Scanned n t shifts marks a c tally
    → c ≤ c' → ((d : ℕ) → c ≤ d → d < c' → mark marks d ≡ 1 → a ≤ d → ⊥) → Scanned n t shifts marks a c' tally
scanned_skip {n} {t} {shifts} {marks} {a} c' S g h =
    record { seen = seen_skip c' S.seen g (λ d x y i. let o = noted_∈ n t shifts marks a i in h d x y o.1 o.2) }

-- with no spare bit set, a marked place is a place
pub marked_inside : {n t : ℕ} {shifts marks : List ℕ} → Lent n t shifts marks → (c : ℕ) → mark marks c ≡ 1 → c < n * t
unfolding NoSpare layout
marked_inside {n} {t} {marks = marks} lent c m =
    by_cases (dec_lt c (n * t)) (λ l. l)
    (λ l. by_cases (dec_lt c (8 * length marks))
    (λ h. absurd (omega (arith, sym (lent.no_spare c (omega arith) h) ∙ m)))
    (λ h. absurd (omega (arith, sym (past_last marks c (omega arith)) ∙ m))))

-- ---- a word of marks

module _ {n t : ℕ} {shifts marks : List ℕ} {a : ℕ} {tally : List ℕ} where
  pub scanned_skips : Skips marks a (λ c. Scanned n t shifts marks a c tally)
  scanned_skips c c' S g h = scanned_skip c' S g h

  module _ {c rest j begin end p : ℕ} (G : WordWalk (λ c. Scanned n t shifts marks a c tally) n t shifts marks a c rest j begin end p) (some : rest ≢ 0)
      (lent : Lent n t shifts marks) where
    -- the lowest place that is left is to be noted
    its_all : All (to_note n t shifts marks a) (c + count_trailing_zeros 64 rest) (c + count_trailing_zeros 64 rest + 1)
    its_all d x y =
        let e : c + count_trailing_zeros 64 rest ≡ d = omega arith in
        let m : mark marks d ≡ 1 = ap (mark marks) (sym e) ∙ walk_marked G some in
        ∈_noted n t shifts marks a (∈_good lent.good (marked_inside lent d m)) m (omega (arith, walk_late G some))

    pub noting_due : Due n t shifts (c + count_trailing_zeros 64 rest) (c + count_trailing_zeros 64 rest + 1) tally
    noting_due =
        record {
          good = lent.good;
          E = to_note n t shifts marks a;
          erased = erased_noted n t shifts marks a;
          all = its_all;
          seen = (walk_at G some scanned_skips).seen;
        }

    -- it is noted, and cleared in the word
    pub noting_more : {j' begin' end' p' : ℕ} {tally' : List ℕ} → Notes n t shifts (c + count_trailing_zeros 64 rest) (c + count_trailing_zeros 64 rest + 1) tally tally'
        → Reached n t shifts (c + count_trailing_zeros 64 rest) j' begin' end' p'
        → WordWalk (λ c. Scanned n t shifts marks a c tally') n t shifts marks a c (bit_and rest (rest - 1)) j' begin' end' p'
    noting_more N R = walk_more G some (scanned_notes (walk_at G some scanned_skips) its_all N) R

pub scanned_start : {n t : ℕ} {shifts : List ℕ} (marks : List ℕ) (a : ℕ) {tally : List ℕ} → tally ≡ replicate (2 * t) 0
    → Scanned n t shifts marks a 0 tally
scanned_start {n} {t} {shifts} marks a k = record { seen = seen_start (to_note n t shifts marks a) k }

-- the scan begins at the word of place a
pub scanned_first : {n t : ℕ} {shifts marks : List ℕ} {a : ℕ} {tally : List ℕ} (c : ℕ) → c ≤ a → Scanned n t shifts marks a 0 tally
    → Scanned n t shifts marks a c tally
scanned_first c h S = scanned_skip c S (omega arith) (λ d x y m l. omega arith)

-- words of zeros are passed
pub scanned_clear : {n t : ℕ} {shifts marks : List ℕ} {a i r : ℕ} {tally : List ℕ} → Clear marks i r
    → Scanned n t shifts marks a (8 * i) tally → Scanned n t shifts marks a (8 * r) tally
scanned_clear {r = r} C S = scanned_skip (8 * r) S (omega (arith, C.order)) (λ d x y m l. omega (arith, sym (C.none d x y) ∙ m))

pub words_end : {n t : ℕ} {shifts marks : List ℕ} → Lent n t shifts marks → (i : ℕ) → length marks ≤ i → n * t ≤ 8 * i
words_end lent i h = omega (arith, lent.marks_long)

-- the scan has passed the last word
pub scanned_end : {n t : ℕ} {shifts marks : List ℕ} {a c : ℕ} {tally : List ℕ} → Lent n t shifts marks
    → Scanned n t shifts marks a c tally → n * t ≤ c → Counted (layout n t shifts) (from_place a (erasures (layout n t shifts) marks)) tally
unfolding to_note
scanned_end {n} {t} {shifts} {marks} {a} lent S h = seen_all lent.good (erased_noted n t shifts marks a) S.seen h
