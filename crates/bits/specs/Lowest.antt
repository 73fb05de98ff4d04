-- The lowest set bit of a number: the bits below it are 0, it is 1, and `n & (n - 1)` is n without it. Bits of a number shifted, and bits beyond its width.
use Rattle.std.specs.Prelude.{◌≡◌, refl, ◌≢◌, ℕ, zero, suc, ◌+◌, ◌-◌, ◌*◌, ◌/◌, ◌%◌, ◌^◌, ◌≤◌, ◌<◌}
use Rattle.std.proofs.Common.{sym, ◌∙◌, ap, mul_assoc, pow-suc, arith, pow-add, pow_mono, shr-shr}
use Rattle.std.proofs.Math.Logic.{by_cases}
use Rattle.std.proofs.Math.Nat.{div-eq_of_lt}
use Rattle.std.proofs.Math.Decide.{ℕ_discrete}
use Rattle.std.specs.Int.Bits.{bit_and, shifted_even}
use Rattle.std.proofs.lemmas.Nat.{and_le_r, shl-shr}
use Rattle.std.specs.Int.Count.{count_trailing_zeros, under}
use Rattle.code.specs.Codewords.{bit_of}
use Rattle.code.proofs.Laws.MarksLaws.{bit_zero, bit_suc, bit_and_lem}

-- by the lowest bit d of n, and t, the zeros of its half
below_step : (n d t b : ℕ) → n % 2 ≡ d → ((c : ℕ) → c < t → bit_of c (n / 2) ≡ 0) → b < under d t → bit_of b n ≡ 0
below_step n zero t zero e f h = bit_zero n ∙ e
below_step n zero t (suc b) e f h = bit_suc b n ∙ f b (omega arith)
below_step n (suc d) t b e f h = absurd (omega arith)

pub zeros_below : (k n b : ℕ) → b < count_trailing_zeros k n → bit_of b n ≡ 0
unfolding count_trailing_zeros
zeros_below zero n b h = absurd (omega arith)
zeros_below (suc k) n b h = below_step n (n % 2) (count_trailing_zeros k (n / 2)) b refl (zeros_below k (n / 2)) h

one_step : (n d t : ℕ) → n % 2 ≡ d → n ≢ 0 → (n / 2 ≢ 0 → bit_of t (n / 2) ≡ 1) → bit_of (under d t) n ≡ 1
one_step n zero t e z f = bit_suc t n ∙ f (λ q. z (omega arith))
one_step n (suc d) t e z f = bit_zero n ∙ omega arith

pub first_one : (k n : ℕ) → n < 2 ^ k → n ≢ 0 → bit_of (count_trailing_zeros k n) n ≡ 1
unfolding count_trailing_zeros
first_one zero n h z = absurd (z (omega arith))
first_one (suc k) n h z =
    let e : 2 ^ suc k ≡ 2 ^ k * 2 = pow-suc 2 k in
    let l : n / 2 < 2 ^ k = omega arith in
    one_step n (n % 2) (count_trailing_zeros k (n / 2)) refl z (first_one k (n / 2) l)

-- ---- one less: the lowest set bit is cleared, those above it stay

less_step : (n d t : ℕ) → n % 2 ≡ d → n ≢ 0 → (n / 2 ≢ 0 → bit_of t (n / 2 - 1) ≡ 0) → bit_of (under d t) (n - 1) ≡ 0
less_step n zero t e z f =
    let q : (n - 1) / 2 ≡ n / 2 - 1 = omega arith in
    bit_suc t (n - 1) ∙ ap (bit_of t) q ∙ f (λ y. z (omega arith))
less_step n (suc d) t e z f = bit_zero (n - 1) ∙ omega arith

less_first : (k n : ℕ) → n < 2 ^ k → n ≢ 0 → bit_of (count_trailing_zeros k n) (n - 1) ≡ 0
unfolding count_trailing_zeros
less_first zero n h z = absurd (z (omega arith))
less_first (suc k) n h z =
    let e : 2 ^ suc k ≡ 2 ^ k * 2 = pow-suc 2 k in
    let l : n / 2 < 2 ^ k = omega arith in
    less_step n (n % 2) (count_trailing_zeros k (n / 2)) refl z (less_first k (n / 2) l)

kept_step : (n d t b : ℕ) → n % 2 ≡ d → n ≢ 0 → (n / 2 ≢ 0 → (c : ℕ) → t < c → bit_of c (n / 2 - 1) ≡ bit_of c (n / 2)) → under d t < b
    → bit_of b (n - 1) ≡ bit_of b n
kept_step n d t zero e z f h = absurd (omega arith)
kept_step n zero t (suc b) e z f h =
    let q : (n - 1) / 2 ≡ n / 2 - 1 = omega arith in
    bit_suc b (n - 1) ∙ ap (bit_of b) q ∙ f (λ y. z (omega arith)) b (omega arith) ∙ sym (bit_suc b n)
kept_step n (suc d) t (suc b) e z f h =
    let q : (n - 1) / 2 ≡ n / 2 = omega arith in
    bit_suc b (n - 1) ∙ ap (bit_of b) q ∙ sym (bit_suc b n)

less_above : (k n : ℕ) → n < 2 ^ k → n ≢ 0 → (b : ℕ) → count_trailing_zeros k n < b → bit_of b (n - 1) ≡ bit_of b n
unfolding count_trailing_zeros
less_above zero n h z b g = absurd (z (omega arith))
less_above (suc k) n h z b g =
    let e : 2 ^ suc k ≡ 2 ^ k * 2 = pow-suc 2 k in
    let l : n / 2 < 2 ^ k = omega arith in
    kept_step n (n % 2) (count_trailing_zeros k (n / 2)) b refl z (less_above k (n / 2) l) g

module _ (k n : ℕ) (small : n < 2 ^ k) (some : n ≢ 0) where
  pub dropped_low : (b : ℕ) → b ≤ count_trailing_zeros k n → bit_of b (bit_and n (n - 1)) ≡ 0
  dropped_low b h =
      bit_and_lem b n (n - 1)
      ∙ by_cases (ℕ_discrete b (count_trailing_zeros k n))
      (λ e. let z : bit_of b (n - 1) ≡ 0 = ap (λ y. bit_of y (n - 1)) e ∙ less_first k n small some in omega arith)
      (λ e. let z : bit_of b n ≡ 0 = zeros_below k n b (omega arith) in omega arith)

  pub dropped_high : (b : ℕ) → count_trailing_zeros k n < b → bit_of b (bit_and n (n - 1)) ≡ bit_of b n
  dropped_high b h = let e = less_above k n small some b h in bit_and_lem b n (n - 1) ∙ omega arith

  pub dropped_less : bit_and n (n - 1) < n
  dropped_less = let p : 0 < n = by_cases (ℕ_discrete n 0) (λ e. absurd (some e)) (λ e. omega arith) in omega (arith, and_le_r n (n - 1))

-- ---- shifts

pub bit_shifted : (a b x : ℕ) → bit_of b (x / 2 ^ a) ≡ bit_of (a + b) x
unfolding bit_of
bit_shifted a b x = ap (λ y. y % 2) (shr-shr x a b)

pub bit_raised : (a b x : ℕ) → bit_of (a + b) (x * 2 ^ a) ≡ bit_of b x
bit_raised a b x = sym (bit_shifted a b (x * 2 ^ a)) ∙ ap (bit_of b) (shl-shr x a)

-- the d + 1 bits from b on lie below the ones that are raised
raised_low : (b d x : ℕ) → bit_of b (x * 2 ^ (suc d + b)) ≡ 0
unfolding bit_of
raised_low b d x =
    ap (λ y. x * y / 2 ^ b % 2) (pow-add 2 (suc d) b) ∙ ap (λ y. y / 2 ^ b % 2) (sym (mul_assoc x (2 ^ suc d) (2 ^ b)))
    ∙ ap (λ y. y % 2) (shl-shr (x * 2 ^ suc d) b) ∙ shifted_even x d

pub bit_under : (a b x : ℕ) → b < a → bit_of b (x * 2 ^ a) ≡ 0
bit_under a b x h = let e : a ≡ suc (a - b - 1) + b = omega arith in ap (λ y. bit_of b (x * 2 ^ y)) e ∙ raised_low b (a - b - 1) x

pub bit_beyond : (k b x : ℕ) → x < 2 ^ k → k ≤ b → bit_of b x ≡ 0
unfolding bit_of
bit_beyond k b x h l =
    let m = pow_mono l in
    let g : x < 2 ^ b = omega arith in
    ap (λ y. y % 2) (div-eq_of_lt g)
