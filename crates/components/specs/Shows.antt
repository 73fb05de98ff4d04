-- What crossed answers: every component sums to 0, or the rows of the first component that does not.
-- Main results: shows_balanced and shows_crossed (from the tables), crossed_inconsistent and balanced_imbalance (what it says of a block with erasures).
use Rattle.std.specs.Prelude.{◌≡◌, refl, ◌≢◌, List, length, get_or, Option, Some, None}
use Rattle.std.proofs.Common.{sym, ◌∙◌, subst, arith}
use Rattle.std.proofs.Math.Path.{ap, ap₂}
use Rattle.std.proofs.Math.Logic.{by_cases}
use Prim.Native.Nat.{ℕ, ◌*◌, ◌≤◌, ◌<◌}
use Rattle.std.proofs.Math.Decide.{dec_le}
use Rattle.std.proofs.Math.Dec.{eqb}
use borrow.Author.Tests.{eqb-true}
use Rattle.bounds.specs.Bounds.{max_t}
use Rattle.math.specs.Members.{up_to}
use Rattle.math.specs.MembersLaws.{by_test, keep_ext, up_to_∈}
use Rattle.math.specs.Sums.{xor_over, only}
use Rattle.math.specs.SumsLaws.{only_false, xor_over_ext, xor_over_some}
use Rattle.plan.specs.Layout.{Layout}
use Rattle.code.specs.Places.{rows}
use Rattle.code.specs.Codewords.{at, syndrome, blank}
use Rattle.code.specs.Components.{Component, Inconsistent, imbalance}
use Rattle.code.specs.Laws.Labels.{label, component_of}
use Rattle.code.proofs.Laws.Labels.{label_idem, label_lt, component_of_first, component_is, component_unique, component_label}
use Rattle.code.proofs.Laws.Balance.{class_sum, class_sum_component, class_sum_rows}
use Rattle.math.specs.Padded.{padded}
use Rattle.components.specs.Lists.{total_of, Adds, First, gathered, Gathers}

-- the component of row r is the first whose row sums do not add up to 0; its z rows stand in the witness
pub record Unbalanced (L : Layout) (E : List ℕ) (x : ℕ → ℕ) (z : ℕ) (witness : List ℕ) : Type 0 where
  pub r : ℕ
  pub inside : r < 2 * L.t
  pub root : label L E r ≡ r
  pub uneven : xor_over (component_of L E r) (syndrome L x) ≢ 0
  pub lowest : (s : ℕ) → s < r → label L E s ≡ s → xor_over (component_of L E s) (syndrome L x) ≡ 0
  pub count : z ≡ length (component_of L E r)
  pub written : witness ≡ padded (2 * L.t) (component_of L E r)

-- what an answer says: the number of rows written, or that all is balanced, which leaves the witness as it was lent
abbrev pub Says : Layout → List ℕ → (ℕ → ℕ) → List ℕ → List ℕ → Option ℕ → Type 0
Says L E x lent witness None = ((q : ℕ) → class_sum L E q x ≡ 0) × (witness ≡ lent)
Says L E x lent witness (Some z) = Unbalanced L E x z witness

-- the answer is right for whatever labels and row sums the tables hold
pub record Shows (t : ℕ) (parent sum lent witness : List ℕ) (answer : Option ℕ) : Type 0 where
  pub says : (L : Layout) (E : List ℕ) (x : ℕ → ℕ) → L.t ≡ t
      → ((r : ℕ) → r < 2 * t → get_or parent r 0 ≡ label L E r)
      → ((r : ℕ) → r < 2 * t → get_or sum r 0 ≡ syndrome L x r) → Says L E x lent witness answer

-- what crossed is lent
pub record Lent (t : ℕ) (parent sum total witness : List ℕ) : Type 0 where
  pub t_min : 1 ≤ t
  pub t_max : t ≤ max_t
  pub parent_long : length parent ≡ 2 * t
  pub sum_long : length sum ≡ 2 * t
  pub total_long : length total ≡ 2 * t
  pub witness_long : length witness ≡ 2 * t
  pub parent_in : (r : ℕ) → r < 2 * t → get_or parent r 0 < 2 * t

-- ---- the tables and the components

module _ (L : Layout) (E : List ℕ) (x : ℕ → ℕ) (parent sum : List ℕ)
    (labels : (r : ℕ) → r < 2 * L.t → get_or parent r 0 ≡ label L E r) (sums : (r : ℕ) → r < 2 * L.t → get_or sum r 0 ≡ syndrome L x r) where
  total_class : (q : ℕ) → total_of parent sum (2 * L.t) q ≡ class_sum L E q x
  unfolding total_of class_sum rows
  total_class q =
      xor_over_ext (up_to (2 * L.t)) (λ r. only (eqb (get_or parent r 0) q) (get_or sum r 0)) (λ r. only (eqb (label L E r) q) (syndrome L x r))
      (λ r m. let h = up_to_∈ (2 * L.t) m in ap₂ (λ a b. only (eqb a q) b) (labels r h) (sums r h))

  gathered_component : (r : ℕ) → label L E r ≡ r → gathered parent r (2 * L.t) ≡ component_of L E r
  unfolding gathered component_of rows
  gathered_component r e =
      keep_ext (λ s. eqb (get_or parent s 0) r) (λ s. eqb (label L E s) (label L E r)) (up_to (2 * L.t))
      (λ s m. ap₂ eqb (labels s (up_to_∈ (2 * L.t) m)) (sym e))

  -- a sum that is not 0 stands at a label
  class_root : (q : ℕ) → class_sum L E q x ≢ 0 → label L E q ≡ q
  unfolding class_sum
  class_root q n =
      let t = xor_over_some (rows L) (λ r. only (eqb (label L E r) q) (syndrome L x r)) n in
      let s : ℕ = t.0 in
      by_test (eqb (label L E s) q)
      (λ e. let f : label L E s ≡ q = eqb-true (label L E s) q e in ap (label L E) (sym f) ∙ label_idem L E s ∙ f)
      (λ e. absurd (t.2 (only_false (syndrome L x s) e)))

  module _ {total : List ℕ} (adds : Adds (2 * L.t) parent sum total (2 * L.t)) where
    total_is : (q : ℕ) → q < 2 * L.t → get_or total q 0 ≡ class_sum L E q x
    total_is q h = adds.sums q h ∙ total_class q

    balanced_at : First (2 * L.t) total (2 * L.t) → (q : ℕ) → class_sum L E q x ≡ 0
    balanced_at f q = class_sum_rows L E q x (λ r h. let k = label_lt L E h in sym (total_is (label L E r) k) ∙ f.before (label L E r) k)

    crossed_at : {r z : ℕ} {witness : List ℕ} → First (2 * L.t) total r → r < 2 * L.t → Gathers (2 * L.t) parent r witness z (2 * L.t)
        → Unbalanced L E x z witness
    crossed_at {r} {z} {witness} f h g =
        let n : class_sum L E r x ≢ 0 = λ e. f.stops h (total_is r h ∙ e) in
        let e : label L E r ≡ r = class_root r n in
        let c : gathered parent r (2 * L.t) ≡ component_of L E r = gathered_component r e in
        record {
          r = r;
          inside = h;
          root = e;
          uneven = λ u. n (ap (λ q. class_sum L E q x) (sym e) ∙ sym (class_sum_component L E x r) ∙ u);
          lowest = λ s k d. class_sum_component L E x s ∙ ap (λ q. class_sum L E q x) d
              ∙ sym (total_is s (omega arith)) ∙ f.before s k;
          count = g.count ∙ ap length c;
          written = g.rows ∙ ap (padded (2 * L.t)) c;
        }

module _ {t : ℕ} {parent sum lent total : List ℕ} (adds : Adds (2 * t) parent sum total (2 * t)) where
  pub shows_balanced : {r : ℕ} → First (2 * t) total r → 2 * t ≤ r → Shows t parent sum lent lent None
  shows_balanced {r} f h = record {
    says = λ L E x e labels sums. (
      subst (λ u. ((i : ℕ) → i < 2 * u → get_or parent i 0 ≡ label L E i) → ((i : ℕ) → i < 2 * u → get_or sum i 0 ≡ syndrome L x i)
          → Adds (2 * u) parent sum total (2 * u) → First (2 * u) total (2 * u) → (q : ℕ) → class_sum L E q x ≡ 0) e
          (λ l s a g. balanced_at L E x parent sum l s a g)
          labels sums adds (subst (λ i. First (2 * t) total i) (omega (arith, f.within)) f),
      refl,
    );
  }

  pub shows_crossed : {r z : ℕ} {witness : List ℕ} → First (2 * t) total r → r < 2 * t → Gathers (2 * t) parent r witness z (2 * t)
      → Shows t parent sum lent witness (Some z)
  shows_crossed {r} {z} {witness} f h g = record {
    says = λ L E x e labels sums.
        subst (λ u. ((i : ℕ) → i < 2 * u → get_or parent i 0 ≡ label L E i) → ((i : ℕ) → i < 2 * u → get_or sum i 0 ≡ syndrome L x i)
        → Adds (2 * u) parent sum total (2 * u) → First (2 * u) total r → r < 2 * u → Gathers (2 * u) parent r witness z (2 * u)
        → Unbalanced L E x z witness) e
        (λ l s a f h g. crossed_at L E x parent sum l s a f h g)
        labels sums adds f h g;
  }

-- ---- what it says of a block with erasures

-- the component found is the one that 01 asks for
pub crossed_inconsistent : {L : Layout} {E : List ℕ} {v : ℕ → ℕ} {z : ℕ} {witness : List ℕ} → 0 < L.t
    → (u : Unbalanced L E (blank E v) z witness) → Inconsistent L E v (component_of L E u.r)
unfolding imbalance
crossed_inconsistent {L} {E} {v} h u =
    let first : at (component_of L E u.r) 0 ≡ u.r = component_of_first L E u.inside ∙ u.root in
    record {
      component = component_is L E u.inside;
      unbalanced = u.uneven;
      lowest = λ m p n. by_cases (dec_le u.r (at m 0)) (λ k. omega arith)
          (λ k. absurd (n (ap (λ l. xor_over l (syndrome L (blank E v))) (component_unique p)
          ∙ u.lowest (at m 0) (omega arith) (component_label h p))));
    }

-- a balanced answer: the row sums of every component add up to 0
pub balanced_imbalance : (L : Layout) (E : List ℕ) (v : ℕ → ℕ) → ((q : ℕ) → class_sum L E q (blank E v) ≡ 0)
    → (l : List ℕ) → Component L E l → imbalance L E v l ≡ 0
unfolding imbalance
balanced_imbalance L E v h l p =
    ap (λ m. xor_over m (syndrome L (blank E v))) (component_unique p) ∙ class_sum_component L E (blank E v) (at l 0) ∙ h (label L E (at l 0))
