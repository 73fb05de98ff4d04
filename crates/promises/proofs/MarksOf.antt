-- The mark buffer of given erasures: zeros, with the bit of each place set.
-- Main results: length_marks_of, byte_marks_of, erasures_marks_of, spare_marks_of.
use Rattle.std.specs.Prelude.{◌≡◌, refl, List, [], ◌∷◌, ℕ, ◌/◌, ◌%◌, ◌^◌, ◌<◌, length, get_or, set, replicate}
use Rattle.std.proofs.Common.{◌∙◌, length-set, get_or-set_same, get_or-set_other}
use Rattle.std.proofs.Math.Logic.{by_cases}
use mathlib.Core.List.Memᴰ
use mathlib.Core.List.Memᴰ.{head as first}
use mathlib.Core.List.Memᴰ.{tail as later}
use Rattle.std.proofs.Math.Decide.{ℕ_discrete, dec_lt}
use native.Mathlib.Omega.{arith}
use Rattle.std.specs.Int.Bits.{bit_or}
use Rattle.std.proofs.lemmas.Nat.{or_lt}
use Rattle.std.proofs.lemmas.List.{length-replicate}
use Rattle.std.proofs.Math.ListN.{get_or-eq_default}
use Rattle.std.proofs.Math.Pow.{pow-lt}
use Rattle.math.specs.Members.{◌∈◌}
use Rattle.math.specs.Padded.{zeros_at}
use Rattle.math.specs.MembersLaws.{by_place, dec_in, rising_ext}
use Rattle.plan.specs.Layout.{Layout}
use Rattle.code.specs.Marks.{mark, mark_bytes, NoSpare, erasures}
use Rattle.code.proofs.Laws.Basics.{places_∈}
use Rattle.code.specs.Laws.Forest.{Erased}
use Rattle.code.proofs.Laws.MarksLaws.{mark_none, set_mark, in_erasures, rising_erasures}

-- k bytes with exactly the bits of E
unfoldable pub marks_of : ℕ → List ℕ → List ℕ
marks_of k [] = replicate k 0
marks_of k (c ∷ E) = let m = marks_of k E in set m (c / 8) (bit_or (get_or m (c / 8) 0) (2 ^ (c % 8)))

pub length_marks_of : (k : ℕ) (E : List ℕ) → length (marks_of k E) ≡ k
unfolding marks_of
length_marks_of k [] = length-replicate k 0
length_marks_of k (c ∷ E) = length-set (marks_of k E) (c / 8) (bit_or (get_or (marks_of k E) (c / 8) 0) (2 ^ (c % 8))) ∙ length_marks_of k E

pub byte_marks_of : (k : ℕ) (E : List ℕ) (i : ℕ) → get_or (marks_of k E) i 0 < 256
unfolding marks_of
byte_marks_of k [] i = omega (arith, zeros_at k i)
byte_marks_of k (c ∷ E) i =
    let m = marks_of k E in
    let y = bit_or (get_or m (c / 8) 0) (2 ^ (c % 8)) in
    let small : c % 8 < 8 = omega arith in
    by_cases (ℕ_discrete i (c / 8))
    (λ e. by_cases (dec_lt (c / 8) (length m))
    (λ h. rw (e, get_or-set_same m (c / 8) y 0 h) (or_lt 8 (get_or m (c / 8) 0) (2 ^ (c % 8)) (byte_marks_of k E (c / 8)) (pow-lt small)))
    (λ n. omega (arith, get_or-eq_default (set m (c / 8) y) 0 {n = i} (omega (arith, length-set m (c / 8) y)))))
    (λ n. rw (get_or-set_other m (c / 8) i y 0 n) (byte_marks_of k E i))

pub mark_out : (k : ℕ) (E : List ℕ) → ((c : ℕ) → c ∈ E → c / 8 < k) → (c : ℕ) → ¬ (c ∈ E) → mark (marks_of k E) c ≡ 0
unfolding marks_of
mark_out k [] h c n = mark_none k c
mark_out k (d ∷ E) h c n =
    (set_mark (marks_of k E) d (omega (arith, h d (first refl), length_marks_of k E))).others c (λ e. n (first e))
    ∙ mark_out k E (λ x i. h x (later i)) c (λ i. n (later i))

pub mark_in : (k : ℕ) (E : List ℕ) → ((c : ℕ) → c ∈ E → c / 8 < k) → (c : ℕ) → c ∈ E → mark (marks_of k E) c ≡ 1
unfolding marks_of
mark_in k [] h c i = absurd (Memᴰ.not-nil i)
mark_in k (d ∷ E) h c i =
    let p = set_mark (marks_of k E) d (omega (arith, h d (first refl), length_marks_of k E)) in
    by_cases (ℕ_discrete c d) (λ e. rw e p.here)
    (λ n. p.others c n ∙ mark_in k E (λ x j. h x (later j)) c (by_place i (λ e. absurd (n e)) (λ j. j)))

module _ (L : Layout) {E : List ℕ} (er : Erased L E) where
  fits : (c : ℕ) → c ∈ E → c / 8 < mark_bytes L
  unfolding mark_bytes
  fits c i = let h = (places_∈ L (er.inside c i)).0 in omega arith

  -- the bits say exactly E
  pub erasures_marks_of : erasures L (marks_of (mark_bytes L) E) ≡ E
  erasures_marks_of =
      rising_ext (rising_erasures L (marks_of (mark_bytes L) E)) er.rising
      (λ c i. by_cases (dec_in c E) (λ j. j)
      (λ n. absurd (omega (arith, ((in_erasures L (marks_of (mark_bytes L) E) c).0 i).1, mark_out (mark_bytes L) E fits c n))))
      (λ c i. (in_erasures L (marks_of (mark_bytes L) E) c).1 (er.inside c i, mark_in (mark_bytes L) E fits c i))

  pub spare_marks_of : NoSpare L (marks_of (mark_bytes L) E)
  unfolding NoSpare
  spare_marks_of c h l = mark_out (mark_bytes L) E fits c (λ i. let k = (places_∈ L (er.inside c i)).0 in omega arith)
