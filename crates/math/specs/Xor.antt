-- Exclusive or of numbers as an operator with its laws; `xor` is the set of them for simp.
-- It is a commutative group in which every number is its own inverse, and it works bit by bit.
use Rattle.std.specs.Prelude.{◌≡◌, ℕ, zero, suc, ◌+◌, ◌*◌, ◌^◌, ◌/◌, ◌%◌, ◌<◌}
use Rattle.std.proofs.Common.{sym, ap, ◌∙◌, div-lt_iff_lt-mul, le_refl, add_assoc, add_comm, arith, pow_pos}
use Rattle.std.proofs.Math.Nat.{pow-succ', add-mod, mod-add-mod}
use Rattle.std.proofs.Math.Arith.{bin_ind}
use Rattle.std.specs.Int.Bits.{bit_xor, xor_self, xor_zero_l, xor_zero_r, xor_add_and}
use Rattle.std.proofs.lemmas.Nat.{xor_comm, xor_lt, xor_shr, xor_mod}

infixl 65 ◌⊕◌
-- adding symbols
unfoldable pub ◌⊕◌ : ℕ → ℕ → ℕ
a ⊕ b = bit_xor a b

pub ⊕_comm : (a b : ℕ) → a ⊕ b ≡ b ⊕ a
unfolding ◌⊕◌
⊕_comm a b = xor_comm a b

pub ⊕_self : (a : ℕ) → a ⊕ a ≡ 0
unfolding ◌⊕◌
⊕_self a = xor_self a

pub ⊕_zero : (a : ℕ) → a ⊕ 0 ≡ a
unfolding ◌⊕◌
⊕_zero a = xor_zero_r a

pub zero_⊕ : (a : ℕ) → 0 ⊕ a ≡ a
unfolding ◌⊕◌
zero_⊕ a = xor_zero_l a

pub ⊕_lt : (k : ℕ) {a b : ℕ} → a < 2 ^ k → b < 2 ^ k → a ⊕ b < 2 ^ k
unfolding ◌⊕◌
⊕_lt k {a} {b} p q = xor_lt k a b p q

pub ⊕_mod : (k a b : ℕ) → (a ⊕ b) % 2 ^ k ≡ (a % 2 ^ k) ⊕ (b % 2 ^ k)
unfolding ◌⊕◌
⊕_mod k a b = xor_mod a b k

-- a sum shifted right is the sum of the numbers shifted right
pub ⊕_shr : (k a b : ℕ) → (a ⊕ b) / 2 ^ k ≡ (a / 2 ^ k) ⊕ (b / 2 ^ k)
unfolding ◌⊕◌
⊕_shr k a b = xor_shr a b k

parity : (a b : ℕ) → (a ⊕ b) % 2 ≡ (a + b) % 2
unfolding ◌⊕◌
parity a b = let e : bit_xor a b + _ * 2 ≡ a + b = xor_add_and a b in omega arith

-- the lowest bit
pub ⊕_odd : (a b : ℕ) → (a ⊕ b) % 2 ≡ (a % 2 + b % 2) % 2
⊕_odd a b = parity a b ∙ add-mod a b 2

pub ⊕_bit : (k a b : ℕ) → (a ⊕ b) / 2 ^ k % 2 ≡ (a / 2 ^ k % 2 + b / 2 ^ k % 2) % 2
⊕_bit k a b = ap (λ (x : ℕ). x % 2) (⊕_shr k a b) ∙ ⊕_odd (a / 2 ^ k) (b / 2 ^ k)

-- a number is known by its half and its lowest bit
halves : {a b : ℕ} → a / 2 ≡ b / 2 → a % 2 ≡ b % 2 → a ≡ b
halves p q = omega arith

parity_left : (a b c : ℕ) → (a ⊕ b ⊕ c) % 2 ≡ (a + b + c) % 2
parity_left a b c = parity (a ⊕ b) c ∙ sym (mod-add-mod (a ⊕ b) 2 c) ∙ ap (λ (x : ℕ). (x + c) % 2) (parity a b) ∙ mod-add-mod (a + b) 2 c

parity_right : (a b c : ℕ) → (a ⊕ (b ⊕ c)) % 2 ≡ (a + b + c) % 2
parity_right a b c = ap (λ (x : ℕ). x % 2) (⊕_comm a (b ⊕ c)) ∙ parity_left b c a ∙ ap (λ (x : ℕ). x % 2) (add_comm (b + c) a ∙ sym (add_assoc a b c))

pub ⊕_assoc : (a b c : ℕ) → a ⊕ b ⊕ c ≡ a ⊕ (b ⊕ c)
⊕_assoc =
    bin_ind (λ (n : ℕ). (b c : ℕ) → n ⊕ b ⊕ c ≡ n ⊕ (b ⊕ c)) (λ b c. ap (λ (x : ℕ). x ⊕ c) (zero_⊕ b) ∙ sym (zero_⊕ (b ⊕ c)))
    (λ n ih b c. halves
    (⊕_shr 1 (n ⊕ b) c ∙ ap (λ (x : ℕ). x ⊕ c / 2) (⊕_shr 1 n b) ∙ ih (b / 2) (c / 2)
    ∙ sym (⊕_shr 1 n (b ⊕ c) ∙ ap (λ (x : ℕ). n / 2 ⊕ x) (⊕_shr 1 b c)))
    (parity_left n b c ∙ sym (parity_right n b c)))

pub ⊕_left_comm : (a b c : ℕ) → a ⊕ (b ⊕ c) ≡ b ⊕ (a ⊕ c)
⊕_left_comm a b c = sym (⊕_assoc a b c) ∙ ap (λ (x : ℕ). x ⊕ c) (⊕_comm a b) ∙ ⊕_assoc b a c

pub ⊕_self_left : (a b : ℕ) → a ⊕ (a ⊕ b) ≡ b
⊕_self_left a b = sym (⊕_assoc a a b) ∙ ap (λ (x : ℕ). x ⊕ b) (⊕_self a) ∙ zero_⊕ b

pub ruleset xor = (⊕_assoc, ⊕_comm, ⊕_left_comm, ⊕_self, ⊕_self_left, ⊕_zero, zero_⊕)

pub ⊕_eq : (a b : ℕ) → a ⊕ b ≡ 0 → a ≡ b
⊕_eq a b e = sym (⊕_zero a) ∙ ap (λ (x : ℕ). a ⊕ x) (sym e) ∙ ⊕_self_left a b

-- a number below 2 ^ w whose w bits are 0 is 0
pub bits_zero : (w a : ℕ) → a < 2 ^ w → ((k : ℕ) → k < w → a / 2 ^ k % 2 ≡ 0) → a ≡ 0
bits_zero zero a l h = omega arith
bits_zero (suc w) a l h = bits_zero w a below (λ k m. h k (omega arith))
  where
    top : a / 2 ^ w < 2
    top = (div-lt_iff_lt-mul (pow_pos w)).1 (rw (pow-succ' 2 w) at l)

    below : a < 2 ^ w
    below =
        let one : a / 2 ^ w < 1 = omega (arith, top, h w (le_refl (suc w))) in
        omega (arith, (div-lt_iff_lt-mul {y = 1} (pow_pos w)).0 one)
