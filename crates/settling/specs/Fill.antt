-- Adding settled values to a block (filled), and the test that nothing is left (clean_of).
-- Main results: filled_at, filled_out (the block place by place), clean_zero, zero_clean.
use Rattle.std.specs.Prelude.{◌≡◌, refl, ◌≢◌, Bool, true, false, ◌&&◌, List, ℕ, zero, suc, ◌+◌, ◌≤◌, ◌<◌, length}
use Rattle.std.proofs.Common.{sym, ◌∙◌, ap, subst, true≢false, add-one, arith, length-set, get_or-set_same, get_or-set_other}
use Rattle.std.proofs.Math.Logic.{by_cases}
use Rattle.std.proofs.Math.Decide.{ℕ_discrete}
use Rattle.std.proofs.Math.ListN.{get_or, set}
use Rattle.math.specs.MembersLaws.{by_test}
use Rattle.math.specs.Xor.{◌⊕◌}
use Rattle.slices.specs.Zeros.{all_zero, all_zero_at, at_all_zero}

-- the block with the first k values added at the first k places
unfoldable pub filled : List ℕ → List ℕ → List ℕ → ℕ → List ℕ
filled block place value zero = block
filled block place value (suc k) =
    set (filled block place value k) (get_or place k 0) (get_or (filled block place value k) (get_or place k 0) 0 ⊕ get_or value k 0)

-- what `fill` requires
pub record Fillable (block place value : List ℕ) (k : ℕ) : Type 0 where
  pub places : k ≤ length place
  pub values : k ≤ length value
  pub inside : (i : ℕ) → i < k → get_or place i 0 < length block

pub filled_none : (block place value : List ℕ) → filled block place value 0 ≡ block
unfolding filled
filled_none block place value = refl

pub filled_long : (block place value : List ℕ) (k : ℕ) → length (filled block place value k) ≡ length block
unfolding filled
filled_long block place value zero = refl
filled_long block place value (suc k) =
    let b = filled block place value k in
    length-set b (get_or place k 0) (get_or b (get_or place k 0) 0 ⊕ get_or value k 0) ∙ filled_long block place value k

-- the turn of `fill` at entry i, which is place c
module _ (block place value : List ℕ) {now : List ℕ} (i : ℕ) (e : now ≡ filled block place value i) {c : ℕ} (ec : c ≡ get_or place i 0) where
  pub filled_next : set now c (get_or now c 0 ⊕ get_or value i 0) ≡ filled block place value (i + 1)
  unfolding filled
  filled_next = rw (add-one, ec) (ap (λ b. set b (get_or place i 0) (get_or b (get_or place i 0) 0 ⊕ get_or value i 0)) e)

  pub filled_inside : {k : ℕ} → Fillable block place value k → i < k → c < length now
  filled_inside f h = rw (e, filled_long block place value i, ec) (f.inside i h)

-- away from the places the block is as it was
pub filled_out : (block place value : List ℕ) (k : ℕ) {c : ℕ} → ((i : ℕ) → i < k → get_or place i 0 ≢ c)
    → get_or (filled block place value k) c 0 ≡ get_or block c 0
unfolding filled
filled_out block place value zero h = refl
filled_out block place value (suc k) {c} h =
    let b = filled block place value k in
    get_or-set_other b (get_or place k 0) c (get_or b (get_or place k 0) 0 ⊕ get_or value k 0) 0 (λ e. h k (omega arith) (sym e))
    ∙ filled_out block place value k (λ i l. h i (omega arith))

-- at a place it has the value added, if no place is listed twice
pub filled_in : (block place value : List ℕ) (x : ℕ → ℕ) (k : ℕ) → ((i : ℕ) → i < k → get_or place i 0 < length block)
    → ((i j : ℕ) → i < j → j < k → get_or place i 0 ≢ get_or place j 0)
    → ((i : ℕ) → i < k → x (get_or place i 0) ≡ get_or block (get_or place i 0) 0 ⊕ get_or value i 0) → (i : ℕ) → i < k
    → get_or (filled block place value k) (get_or place i 0) 0 ≡ x (get_or place i 0)
unfolding filled
filled_in block place value x zero l once v i h = absurd (omega arith)
filled_in block place value x (suc k) l once v i h =
    let b = filled block place value k in
    let y = get_or b (get_or place k 0) 0 ⊕ get_or value k 0 in
    by_cases (ℕ_discrete i k)
    (λ e. rw e
    (get_or-set_same b (get_or place k 0) y 0 (rw (filled_long block place value k) (l k (omega arith)))
    ∙ ap (λ z. z ⊕ get_or value k 0) (filled_out block place value k (λ j q. once j k q (omega arith)))
    ∙ sym (v k (omega arith))))
    (λ n.
    let m : i < k = omega arith in
    get_or-set_other b (get_or place k 0) (get_or place i 0) y 0 (once i k m (omega arith))
    ∙ filled_in block place value x k (λ j q. l j (omega arith)) (λ a c p q. once a c p (omega arith)) (λ j q. v j (omega arith)) i m)

-- the same of a place that is among the k
pub filled_at : (block place value : List ℕ) (x : ℕ → ℕ) (k : ℕ) → ((i : ℕ) → i < k → get_or place i 0 < length block)
    → ((i j : ℕ) → i < j → j < k → get_or place i 0 ≢ get_or place j 0)
    → ((i : ℕ) → i < k → x (get_or place i 0) ≡ get_or block (get_or place i 0) 0 ⊕ get_or value i 0) → {c : ℕ} → (i : ℕ) × (i < k) × (get_or place i 0 ≡ c)
    → get_or (filled block place value k) c 0 ≡ x c
filled_at block place value x k l once v {c} m =
    subst (λ d. get_or (filled block place value k) d 0 ≡ x d) m.2 (filled_in block place value x k l once v m.0 m.1)

-- no row has a sum, and none an erasure left
unfoldable pub clean_of : List ℕ → List ℕ → Bool
clean_of sum tally = all_zero sum && all_zero tally

pub clean_zero : (sum tally : List ℕ) → clean_of sum tally ≡ true → (r : ℕ) → (get_or sum r 0 ≡ 0) × (get_or tally r 0 ≡ 0)
unfolding clean_of
clean_zero sum tally e r =
    by_test (all_zero sum)
    (λ t. (all_zero_at sum t r, all_zero_at tally (rw t at e) r))
    (λ f. absurd (true≢false (sym (rw f at e))))

pub zero_clean : (sum tally : List ℕ) → ((r : ℕ) → r < length sum → get_or sum r 0 ≡ 0) → ((r : ℕ) → r < length tally → get_or tally r 0 ≡ 0)
    → clean_of sum tally ≡ true
unfolding clean_of
zero_clean sum tally h k = rw (at_all_zero sum h) (at_all_zero tally k)

pub not_clean : (sum tally : List ℕ) → all_zero sum ≡ false → clean_of sum tally ≡ false
unfolding clean_of
not_clean sum tally f = rw f

pub clean_rest : (sum tally : List ℕ) → all_zero sum ≡ true → clean_of sum tally ≡ all_zero tally
unfolding clean_of
clean_rest sum tally t = rw t
