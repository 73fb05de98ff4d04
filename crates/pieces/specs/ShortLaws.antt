-- Numbers below 100,000, written with no branch on their width: the last digits of n / 10000, n / 1000 and so on to n are put one after the other.
-- A leading zero is put but not passed, and the next digit is put over it.
-- Main results: decimal_step; leading_start, leading_room, leading_last, leading_passed, leading_zero.
use Rattle.std.specs.Prelude.{◌≡◌, refl, List, [], ◌∷◌, ◌++◌, ℕ, zero, suc, ◌+◌, ◌-◌, ◌*◌, ◌/◌, ◌%◌, ◌^◌, ◌≤◌, ◌<◌, length, take, drop, set}
use Rattle.std.proofs.Common.{sym, ◌∙◌, ap, append-nil, append_assoc, add-zero, pow-suc, arith, length-append, length-set, drop-set-lt}
use Rattle.std.proofs.Math.Logic.{by_cases}
use Rattle.std.proofs.Math.Decide.{dec_lt}
use Rattle.std.proofs.lemmas.List.{take-set-le}
use Rattle.io.specs.Digits.{last_digits, IsDigitCount}
use Rattle.pieces.specs.Pieces.{width_from, decimal, Appends}
use Rattle.pieces.specs.DecimalLaws.{width_is, width_most, decimal_full, decimal_is, length_decimal, length_decimal_is, moved}
use Rattle.pieces.specs.PiecesLaws.{appends_byte, kept_on}

-- the digits of a number, and none of 0
unfoldable pub nonzero : ℕ → List ℕ
nonzero zero = []
nonzero (suc q) = decimal (suc q)

-- the digits of q were put from an index on and end before x; the byte at x is anything
pub record Leading (l : List ℕ) (from q : ℕ) (l' : List ℕ) (x : ℕ) : Type 0 where
  pub text_stands : take x l' ≡ take from l ++ nonzero q
  pub past : x ≡ from + length (nonzero q)
  pub long : length l' ≡ length l
  pub rest : drop (x + 1) l' ≡ drop (x + 1) l

-- ---- numbers

nonzero_is : (q : ℕ) → 0 < q → nonzero q ≡ decimal q
unfolding nonzero
nonzero_is zero h = absurd (omega arith)
nonzero_is (suc q) h = refl

-- ten or more: one digit more than its tens
wider : (q k : ℕ) → 10 ≤ q → k ≤ 5 → IsDigitCount 10 1 (q / 10) k → width_from 20 1 q ≡ suc k
wider q k h g f =
    let p : 10 ^ suc k ≡ 10 ^ k * 10 = pow-suc 10 k in
    width_is q (suc k) (omega arith) (omega arith) (omega (arith, f.1)) (λ _. by_cases (dec_lt 1 k) more one)
  where
    more : 1 < k → 10 ^ (suc k - 1) ≤ q
    more less =
        let e : suc k - 1 ≡ suc (k - 1) = omega arith in
        let p : 10 ^ suc (k - 1) ≡ 10 ^ (k - 1) * 10 = pow-suc 10 (k - 1) in
        rw e (omega (arith, f.2 less))

    one : (1 < k → ⊥) → 10 ^ (suc k - 1) ≤ q
    one not = let e : suc k - 1 ≡ 1 = omega (arith, f.0) in rw e h

step_by : (q k : ℕ) → width_from 20 1 q ≡ suc k → last_digits 10 k (q / 10) ≡ nonzero (q / 10) → decimal q ≡ nonzero (q / 10) ++ ((48 + q % 10) ∷ [])
step_by q k w e = decimal_is q (suc k) w ∙ sym (append-nil (last_digits 10 (suc k) q)) ∙ moved k q [] ∙ ap (λ t. t ++ ((48 + q % 10) ∷ [])) e

-- the digits of its tens, then its last digit
pub decimal_step : (q : ℕ) → q < 100000 → decimal q ≡ nonzero (q / 10) ++ ((48 + q % 10) ∷ [])
unfolding nonzero
decimal_step q h =
    by_cases (dec_lt q 10)
    (λ less. let z : q / 10 ≡ 0 = omega arith in step_by q 0 (width_is q 1 (omega arith) (omega arith) (omega arith) (λ g. absurd (omega arith))) (sym (ap nonzero z)))
    (λ not.
    let k = width_from 20 1 (q / 10) in
    let w : width_from 20 1 q ≡ suc k = wider q k (omega arith) (width_most (q / 10) 5 (omega arith) (omega arith)) (decimal_full (q / 10) (omega arith)) in
    step_by q k w (sym (decimal_is (q / 10) k refl) ∙ sym (nonzero_is (q / 10) (omega arith))))

-- a larger number is no shorter
rises : (q n : ℕ) → q ≤ n → n < 100000 → length (nonzero q) ≤ length (nonzero n)
unfolding nonzero
rises zero n h g = omega arith
rises (suc q) zero h g = absurd (omega arith)
rises (suc q) (suc n) h g =
    let f = decimal_full (suc n) (omega arith) in
    rw (length_decimal_is (suc n)) (length_decimal (suc q) (width_from 20 1 (suc n)) f.0 (omega (arith, f.1)))

-- ---- the buffer

pub leading_start : (l : List ℕ) (from : ℕ) → Leading l from 0 l from
unfolding nonzero
leading_start l from = record { text_stands = sym (append-nil (take from l)); past = sym (add-zero from); long = refl; rest = refl }

-- room for the last digit is room for each digit before it
pub leading_room : {l l' : List ℕ} {from q x : ℕ} (n : ℕ) → Leading l from q l' x → q ≤ n / 10 → n < 100000 → from + length (decimal n) ≤ length l → x < length l'
leading_room {l} {l'} {from} {q} {x} n a h g room =
    let s : length (decimal n) ≡ length (nonzero (n / 10)) + 1 = ap length (decimal_step n g) ∙ length-append (nonzero (n / 10)) _ in
    omega (arith, rises q (n / 10) h (omega arith), a.past, a.long)

-- the next digit ends the number of which the digits put so far are the tens
pub leading_last : {l l' : List ℕ} {from tens x : ℕ} (q v : ℕ) → Leading l from tens l' x → tens ≡ q / 10 → q < 100000 → v ≡ 48 + q % 10 → x < length l' →
    Appends l from (decimal q) (set l' x v) (x + 1)
leading_last {l} {l'} {from} {tens} {x} q v a e h f room =
    let d : decimal q ≡ nonzero tens ++ (v ∷ []) = rw (e, f) (decimal_step q h) in
    let b = appends_byte l' x v room in
    record {
      text_stands = b.text_stands ∙ ap (λ t. t ++ (v ∷ [])) a.text_stands ∙ append_assoc (take from l) (nonzero tens) (v ∷ []) ∙ ap (λ t. take from l ++ t) (sym d);
      past = omega (arith, a.past, ap length d ∙ length-append (nonzero tens) (v ∷ []));
      long = b.long ∙ a.long;
      rest = b.rest ∙ a.rest;
    }

-- one digit more: passed
pub leading_passed : {l l' : List ℕ} {from tens x : ℕ} (q v : ℕ) → Leading l from tens l' x → tens ≡ q / 10 → q < 100000 → v ≡ 48 + q % 10 → x < length l' → 0 < q →
    Leading l from q (set l' x v) (x + 1)
leading_passed {l} {l'} {from} {tens} {x} q v a e h f room p =
    let b = leading_last q v a e h f room in
    let n : nonzero q ≡ decimal q = nonzero_is q p in
    record {
      text_stands = b.text_stands ∙ ap (λ t. take from l ++ t) (sym n);
      past = b.past ∙ ap (λ t. from + length t) (sym n);
      long = b.long;
      rest = kept_on (x + 1) 1 (set l' x v) l b.rest;
    }

-- a leading zero: not passed
pub leading_zero : {l l' : List ℕ} {from tens x : ℕ} (q v : ℕ) → Leading l from tens l' x → tens ≡ q / 10 → q ≡ 0 → Leading l from q (set l' x v) x
leading_zero {l} {l'} {from} {tens} {x} q v a e z =
    let s : nonzero tens ≡ nonzero q = ap nonzero (omega arith) in
    record {
      text_stands = take-set-le x l' x v (omega arith) ∙ a.text_stands ∙ ap (λ t. take from l ++ t) s;
      past = a.past ∙ ap (λ t. from + length t) s;
      long = length-set l' x v ∙ a.long;
      rest = drop-set-lt (x + 1) l' x v (omega arith) ∙ a.rest;
    }
