-- That every number of a list is 0 (all_zero), and the loop that tests it.
-- Main results: all_zero_at, at_all_zero; or_all_zero; gathers_none, gathers_more, gathers_all.
use Rattle.std.specs.Prelude.{◌≡◌, refl, Bool, true, ◌&&◌, List, [], ◌∷◌, ℕ, zero, suc, ◌+◌, ◌≤◌, ◌<◌, eqb, length, get_or, fold}
use Rattle.std.proofs.Common.{sym, ◌∙◌, ap, true≢false, arith, below_more, eqb-true, eq-eqb, ne_eqb}
use Rattle.std.specs.Int.Bits.{bit_or, or_add_and, or_zero_l}
use Rattle.std.proofs.lemmas.Nat.{and_le_l, and_le_r, le_or_l}
use Rattle.std.proofs.Math.Bool.{and_assoc, and-true}
use Rattle.math.specs.MembersLaws.{by_test}

-- every number of the list is 0
unfoldable pub all_zero : List ℕ → Bool
all_zero [] = true
all_zero (x ∷ l) = eqb x 0 && all_zero l

pub all_zero_at : (l : List ℕ) → all_zero l ≡ true → (i : ℕ) → get_or l i 0 ≡ 0
unfolding all_zero
all_zero_at [] e i = refl
all_zero_at (x ∷ l) e zero = by_test (eqb x 0) (λ t. eqb-true x 0 t) (λ f. absurd (true≢false (sym (rw f at e))))
all_zero_at (x ∷ l) e (suc i) = by_test (eqb x 0) (λ t. all_zero_at l (rw t at e) i) (λ f. absurd (true≢false (sym (rw f at e))))

pub at_all_zero : (l : List ℕ) → ((i : ℕ) → i < length l → get_or l i 0 ≡ 0) → all_zero l ≡ true
unfolding all_zero
at_all_zero [] h = refl
at_all_zero (x ∷ l) h = rw (eq-eqb x 0 (h 0 (omega arith))) (at_all_zero l (λ i k. h (suc i) (omega arith)))

-- acc is the or of the first i numbers, as far as 0 goes
pub record Gathers (l : List ℕ) (i acc : ℕ) : Type 0 where
  pub zeros : acc ≡ 0 → (k : ℕ) → k < i → get_or l k 0 ≡ 0
  pub zero : ((k : ℕ) → k < i → get_or l k 0 ≡ 0) → acc ≡ 0

pub gathers_none : (l : List ℕ) → Gathers l 0 0
gathers_none l = record { zeros = λ e k h. absurd (omega arith); zero = λ h. refl }

pub gathers_more : {l : List ℕ} {i acc : ℕ} → Gathers l i acc → Gathers l (i + 1) (bit_or acc (get_or l i 0))
gathers_more {l} {i} {acc} g = record {
  zeros = λ e.
      let s : bit_or acc (get_or l i 0) + _ ≡ acc + get_or l i 0 = or_add_and acc (get_or l i 0) in
      below_more _ i (g.zeros (omega (arith, and_le_r acc (get_or l i 0)))) (omega (arith, and_le_l acc (get_or l i 0)));
  zero = λ h. rw (g.zero (λ k m. h k (omega arith)), h i (omega arith)) (or_zero_l 0);
}

pub gathers_all : {l : List ℕ} {i acc : ℕ} → Gathers l i acc → length l ≤ i → eqb acc 0 ≡ all_zero l
gathers_all {l} {i} {acc} g h =
    by_test (all_zero l)
    (λ t. eq-eqb acc 0 (g.zero (λ k _. all_zero_at l t k)) ∙ sym t)
    (λ f. ne_eqb acc 0 (λ e. true≢false (sym (at_all_zero l (λ k m. g.zeros e k (omega arith))) ∙ f)) ∙ sym f)

-- an or is 0 where both numbers are
or_zero : (a x : ℕ) → eqb (bit_or a x) 0 ≡ (eqb a 0 && eqb x 0)
or_zero zero x = ap (λ (y : ℕ). eqb y 0) (or_zero_l x)
or_zero (suc a) x =
    ne_eqb (bit_or (suc a) x) 0 (λ e. omega (arith, le_or_l (suc a) x)) ∙ sym (ap (λ (b : Bool). b && eqb x 0) (ne_eqb (suc a) 0 (λ e. omega arith)))

-- the or of a list is 0 where each of its numbers is
or_from : (l : List ℕ) (a : ℕ) → eqb (fold bit_or a l) 0 ≡ (eqb a 0 && all_zero l)
unfolding all_zero
or_from [] a = sym (and-true (eqb a 0))
or_from (x ∷ l) a = or_from l (bit_or a x) ∙ ap (λ (b : Bool). b && all_zero l) (or_zero a x) ∙ and_assoc (eqb a 0) (eqb x 0) (all_zero l)

pub or_all_zero : (l : List ℕ) → eqb (fold bit_or 0 l) 0 ≡ all_zero l
or_all_zero l = or_from l 0
