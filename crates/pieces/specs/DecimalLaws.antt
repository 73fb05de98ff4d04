-- Numbers in base ten: how many digits, and the digits one by one from the last.
-- Main results: width_is, width_most, decimal_full, length_digits, length_decimal, decimal_is, moved.
use Rattle.std.specs.Prelude.{◌≡◌, refl, List, ◌∷◌, ◌++◌, ℕ, zero, suc, ◌+◌, ◌-◌, ◌/◌, ◌%◌, ◌^◌, ◌≤◌, ◌<◌, length}
use Rattle.std.proofs.Common.{ap, subst, add-zero, mod-lt, arith, length-append, lt-ltb, le-ltb}
use Rattle.std.proofs.Math.Logic.{by_cases}
use Rattle.std.proofs.Math.Nat.{pow-le-pow_right}
use Rattle.std.proofs.Math.Decide.{dec_lt}
use Rattle.std.proofs.Math.Seq.{append_snoc}
use Rattle.io.specs.Digits.{last_digits, IsDigitCount}
use Rattle.pieces.specs.Pieces.{width_from, decimal}

-- the search finds the fewest digits that hold n
width_from_lem : (fuel j n k : ℕ) → j ≤ k → k ≤ j + fuel → n < 10 ^ k → (j < k → 10 ^ (k - 1) ≤ n) → width_from fuel j n ≡ k
unfolding width_from
width_from_lem zero j n k a b h g = omega arith
width_from_lem (suc fuel) j n k a b h g =
    by_cases (dec_lt j k)
    (λ less. let more : 10 ^ j ≤ n = p less in rw (le-ltb n (10 ^ j) more) (width_from_lem fuel (suc j) n k less (omega arith) h (λ _. g less)))
    (λ not. let e : j ≡ k = omega arith in rw (e, lt-ltb n (10 ^ k) h))
  where
    p : j < k → 10 ^ j ≤ n
    p less =
        let q : 10 ^ j ≤ 10 ^ (k - 1) = pow-le-pow_right (omega arith) (omega arith) in
        let r : 10 ^ (k - 1) ≤ n = g less in
        omega arith

pub width_is : (n k : ℕ) → 1 ≤ k → k ≤ 20 → n < 10 ^ k → (1 < k → 10 ^ (k - 1) ≤ n) → width_from 20 1 n ≡ k
width_is n k a b h g = width_from_lem 20 1 n k a (omega arith) h g

width_from_most : (fuel j n k : ℕ) → j ≤ k → n < 10 ^ k → width_from fuel j n ≤ k
unfolding width_from
width_from_most zero j n k a h = a
width_from_most (suc fuel) j n k a h =
    by_cases (dec_lt n (10 ^ j))
    (λ less. rw (lt-ltb n (10 ^ j) less) a)
    (λ not.
    let m : 10 ^ j ≤ n = omega arith in
    let d : j < k = strict m in
    rw (le-ltb n (10 ^ j) m) (width_from_most fuel (suc j) n k d h))
  where
    strict : 10 ^ j ≤ n → j < k
    strict m =
        by_cases (dec_lt j k) (λ l. l)
        (λ not. let e : j ≡ k = omega arith in let f : 10 ^ j ≡ 10 ^ k = ap (λ x. 10 ^ x) e in absurd (omega arith))

pub width_most : (n k : ℕ) → 1 ≤ k → n < 10 ^ k → width_from 20 1 n ≤ k
width_most n k a h = width_from_most 20 1 n k a h

width_from_full : (fuel j n : ℕ) → n < 10 ^ (j + fuel) → IsDigitCount 10 j n (width_from fuel j n)
unfolding width_from
width_from_full zero j n h = (omega arith, subst (λ k. n < 10 ^ k) (add-zero j) h, λ less. absurd (omega arith))
width_from_full (suc fuel) j n h =
    by_cases (dec_lt n (10 ^ j))
    (λ less. rw (lt-ltb n (10 ^ j) less) (omega arith, less, λ not. absurd (omega arith)))
    (λ not.
    let m : 10 ^ j ≤ n = omega arith in
    let e : j + suc fuel ≡ suc j + fuel = omega arith in
    rw (le-ltb n (10 ^ j) m) (one_more (width_from fuel (suc j) n) m (width_from_full fuel (suc j) n (subst (λ k. n < 10 ^ k) e h))))
  where
    one_more : (w : ℕ) → 10 ^ j ≤ n → IsDigitCount 10 (suc j) n w → IsDigitCount 10 j n w
    one_more w m f =
        let a : suc j ≤ w = f.0 in
        (omega arith, f.1, λ _. by_cases (dec_lt (suc j) w) f.2 (λ not. let e : w - 1 ≡ j = omega arith in rw e m))

-- no digit of a number of 64 bits is lost
pub decimal_full : (n : ℕ) → n < 2 ^ 64 → IsDigitCount 10 1 n (width_from 20 1 n)
decimal_full n h = width_from_full 20 1 n (omega arith)

pub length_digits : (b k n : ℕ) → length (last_digits b k n) ≡ k
length_digits b zero n = refl
length_digits b (suc k) n = simp (length-append, length_digits b k (n / b)) (omega arith)

pub length_decimal_is : (n : ℕ) → length (decimal n) ≡ width_from 20 1 n
unfolding decimal
length_decimal_is n = length_digits 10 (width_from 20 1 n) n

pub length_decimal : (n k : ℕ) → 1 ≤ k → n < 10 ^ k → length (decimal n) ≤ k
length_decimal n k a h = rw (length_decimal_is n) (width_most n k a h)

-- a number of 64 bits, and one below 100,000
pub length_decimal_64 : (n : ℕ) → n < 2 ^ 64 → length (decimal n) ≤ 20
length_decimal_64 n h = length_decimal n 20 (omega arith) (omega arith)

pub length_decimal_5 : (n : ℕ) → n < 100000 → length (decimal n) ≤ 5
length_decimal_5 n h = length_decimal n 5 (omega arith) h

pub decimal_is : (n k : ℕ) → width_from 20 1 n ≡ k → decimal n ≡ last_digits 10 k n
unfolding decimal
decimal_is n k e = rw e

-- the last of the digits that are still to write, in front of those that are written
pub moved : (i n : ℕ) (done : List ℕ) → last_digits 10 (suc i) n ++ done ≡ last_digits 10 i (n / 10) ++ ((48 + n % 10) ∷ done)
moved i n done = simp (append_snoc, lt-ltb (n % 10) 10 (mod-lt n (omega arith)))
