-- The rulers' facts, each by one test that antt computes over the whole table: the rule (`rulers_keep_rule`), the length
-- and the bounds of each row, the rows as the code has them, and the neighbours that share a factor with t.
use Rattle.std.specs.Prelude.{◌≡◌, refl, Bool, true, false, not, ◌||◌, ◌≢◌, List, [], ◌++◌, ℕ, ◌+◌, ◌-◌, ◌*◌, ◌/◌, ◌%◌, ◌^◌, ◌<◌, ◌≤◌, leb, eqb, length, get_or, replicate, map, take, drop}
use Rattle.std.proofs.Common.{sym, ◌∙◌, ap, subst, arith, leb-true, ne_eqb, eqb-true}
use Rattle.std.specs.Cmp.Lexicographic.{pointwise, same_text}
use Rattle.math.specs.Gcd.{gcd, gap}
use Rattle.math.specs.Members.{up_to}
use Rattle.math.specs.Sums.{sum_over, only}
use Rattle.bounds.specs.Bounds.{size_fits, all_below}
use Rattle.ruler.specs.Ruler.{rulers, ruler_t, ruler_shifts, RulerRule}
use Rattle.math.specs.Tests.{every, every_at}

-- the difference of two shifts
diff : ℕ → (ℕ → ℕ) → ℕ → ℕ → ℕ
diff t p i j = (p i + t - p j) % t

-- all pairs by their differences: to the base 256, i * 16 + j is the digit at the difference of i and j
pairs : ℕ → ℕ → (ℕ → ℕ) → ℕ
unfolding diff sum_over only up_to
pairs n t p = sum_over (up_to n) (λ i. sum_over (up_to n) (λ j. only (not (eqb i j)) ((i * 16 + j) * 256 ^ diff t p i j)))

-- every pair can be read back from its difference, as the digit of w there
read_back : ℕ → ℕ → ℕ → (ℕ → ℕ) → Bool
unfolding diff
read_back w n t p = every n (λ i. every n (λ j. eqb i j || eqb (w / 256 ^ diff t p i j % 256) (i * 16 + j)))

or_right : (a b : Bool) → a ≡ false → (a || b) ≡ true → b ≡ true
or_right a b e h = subst (λ (x : Bool). (x || b) ≡ true) e h

read_back_rule : (w n t : ℕ) (p : ℕ → ℕ) → n ≤ 16 → read_back w n t p ≡ true → RulerRule n t p
unfolding read_back diff RulerRule
read_back_rule w n t p small test i j k l hi hj hk hl ij kl same =
    let e : i * 16 + j ≡ k * 16 + l = sym (digit i j hi hj ij) ∙ ap (λ (d : ℕ). w / 256 ^ d % 256) same ∙ digit k l hk hl kl in
    (omega arith, omega arith)
  where
    digit : (a b : ℕ) → a < n → b < n → a ≢ b → w / 256 ^ diff t p a b % 256 ≡ a * 16 + b
    digit a b ha hb ne =
        eqb-true _ _
        (or_right (eqb a b) _ (ne_eqb a b ne)
        (every_at n (λ j. eqb a j || eqb (w / 256 ^ diff t p a j % 256) (a * 16 + j))
        (every_at n (λ i. every n (λ j. eqb i j || eqb (w / 256 ^ diff t p i j % 256) (i * 16 + j))) test a ha) b hb))

module _ (f : ℕ → Bool) (test : every 12 (λ m. f (m + 3)) ≡ true) where
  in_every_row : (n : ℕ) → 3 ≤ n → n ≤ 14 → f n ≡ true
  in_every_row n h h' =
      let e : n - 3 + 3 ≡ n = omega arith in
      subst (λ (k : ℕ). f k ≡ true) e (every_at 12 (λ m. f (m + 3)) test (n - 3) (omega arith))

rule_test : ℕ → Bool
unfolding read_back pairs ruler_t ruler_shifts
rule_test n = read_back (pairs n (ruler_t n) (λ j. get_or (ruler_shifts n) j 0)) n (ruler_t n) (λ j. get_or (ruler_shifts n) j 0)

-- "All twelve rows keep it."
pub rulers_keep_rule : (n : ℕ) → 3 ≤ n → n ≤ 14 → RulerRule n (ruler_t n) (λ j. get_or (ruler_shifts n) j 0)
unfolding rule_test
rulers_keep_rule n h h' = read_back_rule _ n (ruler_t n) _ (omega arith) (in_every_row rule_test refl n h h')

pub ruler_length : (n : ℕ) → 3 ≤ n → n ≤ 14 → length (ruler_shifts n) ≡ n
unfolding ruler_shifts
ruler_length n h h' = eqb-true _ _ (in_every_row (λ n. eqb (length (ruler_shifts n)) n) refl n h h')

pub ruler_below : (n : ℕ) → 3 ≤ n → n ≤ 14 → all_below (ruler_t n) (ruler_shifts n) ≡ true
unfolding all_below ruler_t ruler_shifts
ruler_below n h h' = in_every_row (λ n. all_below (ruler_t n) (ruler_shifts n)) refl n h h'

pub ruler_fits : (n : ℕ) → 3 ≤ n → n ≤ 14 → size_fits n (ruler_t n) ≡ true
unfolding size_fits ruler_t
ruler_fits n h h' = in_every_row (λ n. size_fits n (ruler_t n)) refl n h h'

pub ruler_wide : (n : ℕ) → 3 ≤ n → n ≤ 14 → n ≤ ruler_t n
unfolding ruler_t
ruler_wide n h h' = leb-true _ _ (in_every_row (λ n. leb n (ruler_t n)) refl n h h')

-- the table as the code has it: each row filled up to 16 numbers
unfoldable pub filled : List (List ℕ)
filled = map (λ row. row ++ replicate (16 - length row) 0) rulers

pub filled_t : (n : ℕ) → 3 ≤ n → n ≤ 14 → get_or (get_or filled (n - 3) []) 0 0 ≡ ruler_t n
unfolding filled rulers ruler_t
filled_t n h h' = eqb-true _ _ (in_every_row (λ n. eqb (get_or (get_or filled (n - 3) []) 0 0) (ruler_t n)) refl n h h')

pub filled_shifts : (n : ℕ) → 3 ≤ n → n ≤ 14 → take (n + 1 - 1) (drop 1 (get_or filled (n - 3) [])) ≡ ruler_shifts n
unfolding filled rulers ruler_shifts
filled_shifts n h h' = same_text _ _ (sym (in_every_row (λ n. pointwise eqb (take (n + 1 - 1) (drop 1 (get_or filled (n - 3) []))) (ruler_shifts n)) refl n h h'))

-- "ruler neighbours 3, 15 at t 48 sharing 12, and 76, 82 at t 183 sharing 3"
pub neighbours_share :
    (ruler_t 7 ≡ 48) × (get_or (ruler_shifts 7) 2 0 ≡ 3) × (get_or (ruler_shifts 7) 3 0 ≡ 15) × (gcd (gap 3 15) 48 ≡ 12)
    × (ruler_t 14 ≡ 183) × (get_or (ruler_shifts 14) 7 0 ≡ 76) × (get_or (ruler_shifts 14) 8 0 ≡ 82) × (gcd (gap 76 82) 183 ≡ 3)
unfolding ruler_t ruler_shifts gcd gap
neighbours_share = (refl, refl, refl, refl, refl, refl, refl, refl)
