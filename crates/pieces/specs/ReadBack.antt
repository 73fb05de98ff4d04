-- A text of numbers read back: it has no letters, and the number at its front is the one that was written.
-- Main results: letterless_fields, front_decimal.
use Rattle.std.specs.Prelude.{◌≡◌, Bool, cond, List, [], ◌∷◌, ◌++◌, ℕ, zero, suc, ◌+◌, ◌-◌, ◌*◌, ◌/◌, ◌%◌, ◌^◌, ◌<◌, ltb}
use Rattle.std.proofs.Common.{◌∙◌, ap, mod-lt, arith, lt-ltb, le-ltb}
use Rattle.io.specs.Digits.{last_digits}
use Rattle.pieces.specs.Pieces.{width_from, decimal, fields}
use Rattle.pieces.specs.DecimalLaws.{decimal_full, moved}

-- digits, spaces and line feeds: every letter has a higher code
pub data Letterless : List ℕ → Type 0 where
  nothing : Letterless []
  more : {c : ℕ} {l : List ℕ} → c < 58 → Letterless l → Letterless (c ∷ l)

letterless_append : {l m : List ℕ} → Letterless l → Letterless m → Letterless (l ++ m)
letterless_append nothing q = q
letterless_append (more h p) q = more h (letterless_append p q)

letterless_digits : (k n : ℕ) → Letterless (last_digits 10 k n)
letterless_digits zero n = nothing
letterless_digits (suc k) n =
    let h : n % 10 < 10 = mod-lt n (omega arith) in
    letterless_append (letterless_digits k (n / 10)) (more (rw (lt-ltb (n % 10) 10 h) (omega arith)) nothing)

pub letterless_fields : (ns : List ℕ) → Letterless (fields ns)
unfolding fields decimal
letterless_fields [] = nothing
letterless_fields (n ∷ ns) = letterless_append (more (omega arith) (letterless_digits (width_from 20 1 n) n)) (letterless_fields ns)

-- the number at the front of a text, after n for the digits before it
pub front : ℕ → List ℕ → ℕ
front n [] = n
front n (c ∷ l) = cond (ltb c 48) n (front (10 * n + (c - 48)) l)

front_digits : (k n : ℕ) (l : List ℕ) → n < 10 ^ k → front 0 (last_digits 10 k n ++ l) ≡ front n l
unfolding front
front_digits zero n l h = let e : n ≡ 0 = omega arith in rw e
front_digits (suc k) n l h =
    let less : n / 10 < 10 ^ k = omega arith in
    let e : 10 * (n / 10) + (48 + n % 10 - 48) ≡ n = omega arith in
    ap (front 0) (moved k n l)
    ∙ front_digits k (n / 10) ((48 + n % 10) ∷ l) less
    ∙ ap (λ (b : Bool). cond b (n / 10) (front (10 * (n / 10) + (48 + n % 10 - 48)) l)) (le-ltb (48 + n % 10) 48 (omega arith))
    ∙ ap (λ x. front x l) e

pub front_decimal : (n : ℕ) (l : List ℕ) → n < 256 → front 0 (decimal n ++ (32 ∷ l)) ≡ n
unfolding decimal front
front_decimal n l h = front_digits (width_from 20 1 n) n (32 ∷ l) (decimal_full n (omega arith)).1
