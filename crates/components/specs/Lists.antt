-- Lists as the code of crossed writes them: rows picked out, a list filled up with 0, sums by parent.
-- Main results: adds_more.
use Rattle.std.specs.Prelude.{◌≡◌, refl, ◌≢◌, List, [], ◌∷◌, ◌++◌, ℕ, ◌+◌, ◌≤◌, ◌<◌, eqb, length, get_or, set, replicate}
use Rattle.std.proofs.Common.{sym, ◌∙◌, ap, append-nil, add-one, arith, length-set, length-append, get_or-set_same, get_or-set_other, eq-eqb, ne_eqb}
use Rattle.std.proofs.Math.Logic.{by_cases}
use Rattle.std.proofs.Math.Decide.{ℕ_discrete}
use Rattle.std.proofs.lemmas.List.{length-replicate, get_or-replicate}
use Rattle.math.specs.Members.{keep, from, up_to}
use Rattle.math.specs.Padded.{padded, padded_none, padded_more}
use Rattle.math.specs.MembersLaws.{up_to_suc, keep_append, length_keep_le, length_up_to}
use Rattle.math.specs.Xor.{◌⊕◌, ⊕_zero}
use Rattle.math.specs.Sums.{xor_over, only}
use Rattle.math.specs.SumsLaws.{only_true, only_false, xor_over_append}

-- ---- sums by parent

-- the sums of the first i rows that have q for their parent
unfoldable pub total_of : List ℕ → List ℕ → ℕ → ℕ → ℕ
total_of parent sum i q = xor_over (up_to i) (λ r. only (eqb (get_or parent r 0) q) (get_or sum r 0))

total_of_more : (parent sum : List ℕ) (i q : ℕ) → total_of parent sum (i + 1) q ≡ total_of parent sum i q ⊕ only (eqb (get_or parent i 0) q) (get_or sum i 0)
unfolding total_of xor_over
total_of_more parent sum i q =
    let f : ℕ → ℕ = λ r. only (eqb (get_or parent r 0) q) (get_or sum r 0) in
    rw (add-one i, up_to_suc i) (xor_over_append (up_to i) (i ∷ []) f ∙ ap (λ x. xor_over (up_to i) f ⊕ x) (⊕_zero (f i)))

-- the first i rows are added up
pub record Adds (n : ℕ) (parent sum total : List ℕ) (i : ℕ) : Type 0 where
  pub long : length total ≡ n
  pub sums : (q : ℕ) → q < n → get_or total q 0 ≡ total_of parent sum i q

pub adds_none : (n : ℕ) (parent sum total : List ℕ) → total ≡ replicate n 0 → Adds n parent sum total 0
unfolding total_of xor_over up_to from
adds_none n parent sum total e = record {
  long = ap length e ∙ length-replicate n 0;
  sums = λ q h. ap (λ l. get_or l q 0) e ∙ get_or-replicate n q 0 0 h;
}

pub adds_more : {n : ℕ} {parent sum total : List ℕ} {i : ℕ} → Adds n parent sum total i → get_or parent i 0 < n
    → Adds n parent sum (set total (get_or parent i 0) (get_or total (get_or parent i 0) 0 ⊕ get_or sum i 0)) (i + 1)
adds_more {n} {parent} {sum} {total} {i} m h =
    let p : ℕ = get_or parent i 0 in
    let v : ℕ = get_or total p 0 ⊕ get_or sum i 0 in
    let k : p < length total = omega (arith, m.long) in
    record {
      long = length-set total p v ∙ m.long;
      sums = λ q l. by_cases (ℕ_discrete q p)
          (λ e. ap (λ x. get_or (set total p v) x 0) e ∙ get_or-set_same total p v 0 k
          ∙ ap (λ x. x ⊕ get_or sum i 0) (m.sums p h)
          ∙ ap (λ x. total_of parent sum i p ⊕ x) (sym (only_true (get_or sum i 0) (eq-eqb p p refl)))
          ∙ sym (total_of_more parent sum i p) ∙ ap (total_of parent sum (i + 1)) (sym e))
          (λ n. get_or-set_other total p q v 0 n ∙ m.sums q l
          ∙ sym (⊕_zero (total_of parent sum i q))
          ∙ ap (λ x. total_of parent sum i q ⊕ x) (sym (only_false (get_or sum i 0) (ne_eqb p q (λ e. n (sym e)))))
          ∙ sym (total_of_more parent sum i q));
    }

-- ---- the first row with a sum that is not 0

pub record First (n : ℕ) (total : List ℕ) (r : ℕ) : Type 0 where
  pub within : r ≤ n
  pub before : (s : ℕ) → s < r → get_or total s 0 ≡ 0
  pub stops : r < n → get_or total r 0 ≢ 0

-- ---- the rows with one parent

-- the rows below i that have q for their parent, rising
unfoldable pub gathered : List ℕ → ℕ → ℕ → List ℕ
gathered parent q i = keep (λ s. eqb (get_or parent s 0) q) (up_to i)

gathered_in : (parent : List ℕ) (q i : ℕ) → get_or parent i 0 ≡ q → gathered parent q (i + 1) ≡ gathered parent q i ++ (i ∷ [])
unfolding gathered keep
gathered_in parent q i e = rw (add-one i, up_to_suc i, keep_append (λ s. eqb (get_or parent s 0) q) (up_to i) (i ∷ []), eq-eqb (get_or parent i 0) q e)

gathered_out : (parent : List ℕ) (q i : ℕ) → get_or parent i 0 ≢ q → gathered parent q (i + 1) ≡ gathered parent q i
unfolding gathered keep
gathered_out parent q i n =
    rw (add-one i, up_to_suc i, keep_append (λ s. eqb (get_or parent s 0) q) (up_to i) (i ∷ []), ne_eqb (get_or parent i 0) q n)
    (append-nil (keep (λ s. eqb (get_or parent s 0) q) (up_to i)))

gathered_length : (parent : List ℕ) (q i : ℕ) → length (gathered parent q i) ≤ i
unfolding gathered
gathered_length parent q i = omega (arith, length_keep_le (λ s. eqb (get_or parent s 0) q) (up_to i), length_up_to i)

-- the first i rows are passed, z of them written
pub record Gathers (n : ℕ) (parent : List ℕ) (q : ℕ) (witness : List ℕ) (z i : ℕ) : Type 0 where
  pub count : z ≡ length (gathered parent q i)
  pub few : z ≤ i
  pub rows : witness ≡ padded n (gathered parent q i)

pub gathers_none : (n : ℕ) (parent : List ℕ) (q : ℕ) (witness : List ℕ) → witness ≡ replicate n 0 → Gathers n parent q witness 0 0
unfolding gathered keep up_to from
gathers_none n parent q witness e = record { count = refl; few = omega arith; rows = e ∙ sym (padded_none n) }

pub gathers_in : {n : ℕ} {parent : List ℕ} {q : ℕ} {witness : List ℕ} {z i : ℕ} → Gathers n parent q witness z i → i < n → get_or parent i 0 ≡ q
    → Gathers n parent q (set witness z i) (z + 1) (i + 1)
gathers_in {n} {parent} {q} {witness} {z} {i} m h e =
    let l : List ℕ = gathered parent q i in
    let g : gathered parent q (i + 1) ≡ l ++ (i ∷ []) = gathered_in parent q i e in
    record {
      count = sym (ap length g ∙ length-append l (i ∷ []) ∙ ap (λ x. x + 1) (sym m.count));
      few = omega (arith, m.few);
      rows = ap (λ w. set w z i) m.rows ∙ ap (λ x. set (padded n l) x i) m.count
          ∙ padded_more n l i (omega (arith, m.few, m.count)) ∙ ap (padded n) (sym g);
    }

pub gathers_out : {n : ℕ} {parent : List ℕ} {q : ℕ} {witness : List ℕ} {z i : ℕ} → Gathers n parent q witness z i → get_or parent i 0 ≢ q
    → Gathers n parent q witness z (i + 1)
gathers_out {n} {parent} {q} {witness} {z} {i} m e =
    let g : gathered parent q i ≡ gathered parent q (i + 1) = sym (gathered_out parent q i e) in
    record { count = m.count ∙ ap length g; few = omega (arith, m.few); rows = m.rows ∙ ap (padded n) g }
