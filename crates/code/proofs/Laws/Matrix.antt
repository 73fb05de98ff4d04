-- Matrix (1) of 002 and the rows of a place say the same: its entries are 1 exactly where the place meets the row (matrix_meets), two in each column
-- (column_weight), and H x = 0 for each bit is what makes a block a codeword (codeword_by_matrix).
use Rattle.std.specs.Prelude.{◌≡◌, refl, ◌↔◌, Bool, true, List, length}
use Rattle.std.proofs.Math.Path.{sym, ap}
use Rattle.std.proofs.Common.{◌∙◌, inl, inr, zero-mul, one-mul, zero-add, le_of_lt}
use Rattle.std.proofs.Math.Logic.{by_cases}
use Rattle.std.proofs.Math.Bool.{false, or-false}
use Prim.Native.Nat.{ℕ, ◌+◌, ◌-◌, ◌*◌, ◌/◌, ◌%◌, ◌^◌, ◌≤◌, ◌<◌}
use Rattle.std.proofs.Math.Nat.{mod-eq_of_lt, zero-div, add-zero}
use Rattle.std.proofs.Math.Decide.{dec_lt, ℕ_discrete}
use native.Mathlib.Omega.{arith}
use Rattle.std.proofs.Math.Dec.{eqb}
use borrow.Author.Tests.{eq-eqb, ne_eqb, eqb-true, lt-ltb, le-ltb}
use Rattle.math.specs.Members.{◌∈◌, without, Distinct}
use Rattle.math.specs.MembersLaws.{by_test, keep_split, length_without}
use Rattle.math.proofs.Residues.{same_back}
use Rattle.math.specs.Xor.{bits_zero}
use Rattle.math.specs.Sums.{sum_over, only}
use Rattle.math.specs.SumsLaws.{only_lt, xor_over_bit, xor_over_lt, sum_over_ext, sum_over_add, length_keep_sum}
use Rattle.plan.specs.Layout.{Layout, Valid, top_row, bottom_row, top, bottom}
use Rattle.code.specs.Places.{places, rows, meets, cpm, matrix}
use Rattle.code.specs.Codewords.{at, syndrome, Codeword, bit_of, product}
use Rattle.code.proofs.Laws.Basics.{places_∈, distinct_rows, ∈_rows, rows_∈, offset_lt, top≢bottom, bottom_ge, top_lt, meets_row}
use Rattle.code.proofs.Laws.MatrixUpper.{eqb_iff, matrix_upper}

-- a test of a single number counts one in a list that holds it
pub sum_over_at_one : {l : List ℕ} {a : ℕ} → Distinct l → a ∈ l → sum_over l (λ c. only (eqb c a) 1) ≡ 1
unfolding without
sum_over_at_one {l} {a} d m =
    omega (arith, length_keep_sum (λ c. eqb c a) l, keep_split (λ c. eqb c a) l, length_without d m)

bit_entry : (b : Bool) (k x : ℕ) → only b x / 2 ^ k % 2 ≡ only b 1 * bit_of k x
unfolding only bit_of
bit_entry true k x = sym (one-mul (x / 2 ^ k % 2))
bit_entry false k x = rw (zero-div (2 ^ k)) (sym (zero-mul (x / 2 ^ k % 2)))

module _ (L : Layout) (ok : Valid L) where
  -- the upper rows are met as top rows, the lower rows as bottom rows
  pub meets_upper : (c : ℕ) {r : ℕ} → r < L.t → meets L c r ≡ eqb r (top L c)
  unfolding meets
  meets_upper c {r} h = rw (ne_eqb r (bottom L c) (λ e. omega (arith, bottom_ge L ok c, e))) (or-false (eqb r (top L c)))

  pub meets_lower : (c : ℕ) {r : ℕ} → L.t ≤ r → meets L c r ≡ eqb r (bottom L c)
  unfolding meets
  meets_lower c {r} h = rw (ne_eqb r (top L c) (λ e. omega (arith, top_lt L ok c, e)))

  matrix_lower : {c r : ℕ} → c ∈ places L → L.t ≤ r → r < 2 * L.t → matrix L r c ≡ only (eqb r (bottom L c)) 1
  unfolding matrix cpm bottom bottom_row
  matrix_lower {c} {r} m l h =
      let p : ℕ = L.shift (c / L.t) in
      let s = same_back {p = p} (c % L.t) (r - L.t) (le_of_lt (ok.below (c / L.t) (places_∈ L m).1)) in
      let x : c % L.t % L.t ≡ c % L.t = mod-eq_of_lt (offset_lt L ok c) in
      let y : (r - L.t) % L.t ≡ r - L.t = mod-eq_of_lt (omega arith) in
      rw (le-ltb r L.t l)
      (ap (λ b. only b 1) (eqb_iff (c % L.t) ((r - L.t + p) % L.t) r (L.t + (c % L.t + L.t - p) % L.t)
      (λ e. let q = s.1 (x ∙ e) in omega arith)
      (λ e. sym x ∙ s.0 (let q : (c % L.t + L.t - p) % L.t ≡ r - L.t = omega arith in q ∙ sym y))))

  pub matrix_meets : {c r : ℕ} → c ∈ places L → r < 2 * L.t → matrix L r c ≡ only (meets L c r) 1
  matrix_meets {c} {r} m h =
      by_cases (dec_lt r L.t)
      (λ l. matrix_upper L c l ∙ ap (λ b. only b 1) (sym (meets_upper c l)))
      (λ l. matrix_lower m (omega arith) h ∙ ap (λ b. only b 1) (sym (meets_lower c (omega arith))))

  product_bit : (v : ℕ → ℕ) (b : ℕ) {r : ℕ} → r < 2 * L.t → product L v b r ≡ syndrome L v r / 2 ^ b % 2
  unfolding product syndrome
  product_bit v b {r} h =
      sym (xor_over_bit b (places L) (λ c. only (meets L c r) (v c))
      ∙ ap (λ x. x % 2) (sum_over_ext (places L) (λ c. only (meets L c r) (v c) / 2 ^ b % 2) (λ c. matrix L r c * bit_of b (v c))
      (λ c m. rw (matrix_meets m h) (bit_entry (meets L c r) b (v c)))))

  syndrome_lt : (v : ℕ → ℕ) (r : ℕ) → ((c : ℕ) → v c < 256) → syndrome L v r < 256
  unfolding syndrome
  syndrome_lt v r h = xor_over_lt 8 (places L) (λ c. only (meets L c r) (v c)) (λ c _. only_lt (meets L c r) (h c) (omega arith))

  pub codeword_by_matrix : (v : List ℕ) → length v ≡ L.n * L.t → ((c : ℕ) → at v c < 256) →
      Codeword L v ↔ ((b r : ℕ) → b < 8 → r < 2 * L.t → product L (at v) b r ≡ 0)
  codeword_by_matrix v w s = (
    λ k b r _ h. product_bit (at v) b h ∙ rw (k.sums r h, zero-div (2 ^ b)),
    λ p. record {
      whole = w;
      symbols = s;
      sums = λ r h. bits_zero 8 (syndrome L (at v) r) (syndrome_lt (at v) r s) (λ b l. sym (product_bit (at v) b h) ∙ p b r l h);
    },
  )

  only_two : (c r : ℕ) → only (meets L c r) 1 ≡ only (eqb r (top L c)) 1 + only (eqb r (bottom L c)) 1
  unfolding meets only
  only_two c r =
      by_test (eqb r (top L c))
      (λ e. let f : eqb r (bottom L c) ≡ false = ne_eqb r (bottom L c) (λ g. top≢bottom L ok c c (sym (eqb-true r (top L c) e) ∙ g)) in
      rw (e, f))
      (λ e. rw e (sym (zero-add (only (eqb r (bottom L c)) 1))))

  -- every place has exactly two rows with the entry 1
  pub column_weight : {c : ℕ} → c ∈ places L → sum_over (rows L) (λ r. matrix L r c) ≡ 2
  column_weight {c} m =
      sum_over_ext (rows L) (λ r. matrix L r c) (λ r. only (eqb r (top L c)) 1 + only (eqb r (bottom L c)) 1)
      (λ r k. matrix_meets m (rows_∈ L k) ∙ only_two c r)
      ∙ sum_over_add (rows L) (λ r. only (eqb r (top L c)) 1) (λ r. only (eqb r (bottom L c)) 1)
      ∙ rw (
        sum_over_at_one (distinct_rows L) (∈_rows L (meets_row L ok c (inl refl))),
        sum_over_at_one (distinct_rows L) (∈_rows L (meets_row L ok c (inr refl))),
      )
