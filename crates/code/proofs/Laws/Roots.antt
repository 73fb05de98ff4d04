-- Roots: the rows that are their own label, one of each component.
-- Main results: roots_same and roots_step (what one more place does to their number), roots_forest (erasures of a forest and components number 2t).
use Rattle.std.specs.Prelude.{◌≡◌, refl, ◌≢◌, ◌⊎◌, not, ◌&&◌, List, [], ◌∷◌, ℕ, suc, ◌+◌, ◌*◌, ◌<◌, max, eqb, length}
use Rattle.std.proofs.Common.{sym, ◌∙◌, ap, inl, inr, ⊎_elim, arith, eq-eqb, ne_eqb, eqb-true}
use Rattle.std.proofs.Math.Logic.{by_cases}
use Rattle.std.proofs.Math.Decide.{ℕ_discrete, dec_le}
use Rattle.math.specs.Members.{◌∈◌, without, Distinct}
use Rattle.math.specs.MembersLaws.{keep_ext, keep_all, keep_keep, ∈_keep, keep_∈, distinct_keep, length_up_to, length_without}
use Rattle.plan.specs.Layout.{Layout, Valid, top, bottom}
use Rattle.code.specs.Places.{rows}
use Rattle.code.specs.Components.{Connected}
use Rattle.code.specs.Laws.Forest.{Forest, forest_none, forest_more}
use Rattle.code.proofs.Laws.Basics.{∈_rows, rows_∈, distinct_rows, meets_row}
use Rattle.code.specs.Laws.Labels.{merge, label}
use Rattle.code.proofs.Laws.Labels.{by_merge, min_one, label_connected, label_same, label_lt, label_idem}
use Rattle.code.specs.Laws.Roots.{root, roots}

max_one : (a b : ℕ) → (max a b ≡ a) ⊎ (max a b ≡ b)
max_one a b = by_cases (dec_le a b) (λ h. inr (omega arith)) (λ h. inl (omega arith))

-- a row is its own label among merged ones: it was before, and it is not the higher of the two
merged_root : (a b x r : ℕ) → a ≢ b → ((r ≡ a) ⊎ (r ≡ b) → x ≡ r) → eqb (merge a b x) r ≡ (eqb x r && not (eqb r (max a b)))
merged_root a b x r n own =
    by_cases (ℕ_discrete x r)
    (λ e. by_cases (ℕ_discrete r (max a b))
    (λ m. ne_eqb (merge a b x) r (by_merge a b x (λ i h q. omega arith) (λ f g h q. ⊎_elim (λ k. omega arith) (λ k. omega arith) (max_one a b)))
    ∙ sym (rw (eq-eqb x r e, eq-eqb r (max a b) m)))
    (λ m. eq-eqb (merge a b x) r (by_merge a b x (⊎_elim (λ i h. omega arith) (λ i h. omega arith)) (λ f g h. h ∙ e))
    ∙ sym (rw (eq-eqb x r e, ne_eqb r (max a b) m))))
    (λ k. ne_eqb (merge a b x) r (λ q. k (by_merge a b x
    (λ i h. own (⊎_elim (λ z. inl (sym q ∙ h ∙ z)) (λ z. inr (sym q ∙ h ∙ z)) (min_one a b))) (λ f g h. sym h ∙ q)))
    ∙ sym (rw (ne_eqb x r k)))

pub length_rows : (L : Layout) → length (rows L) ≡ 2 * L.t
unfolding rows
length_rows L = length_up_to (2 * L.t)

pub roots_none : (L : Layout) → length (roots L []) ≡ 2 * L.t
unfolding roots root label
roots_none L = ap length (keep_all (root L []) (rows L) (λ r m. eq-eqb r r refl)) ∙ length_rows L

-- a place whose rows are connected
pub roots_same : (L : Layout) (c : ℕ) (E : List ℕ) → Connected L E (top L c) (bottom L c) → roots L (c ∷ E) ≡ roots L E
unfolding roots root
roots_same L c E p = keep_ext (root L (c ∷ E)) (root L E) (rows L) (λ r m. ap (λ x. eqb x r) (label_same L c E p r))

pub ∈_roots : (L : Layout) (E : List ℕ) {r : ℕ} → r < 2 * L.t → label L E r ≡ r → r ∈ roots L E
unfolding roots root
∈_roots L E {r} h e = ∈_keep (root L E) (∈_rows L h) (eq-eqb (label L E r) r e)

pub roots_∈ : (L : Layout) (E : List ℕ) {r : ℕ} → r ∈ roots L E → (r < 2 * L.t) × (label L E r ≡ r)
unfolding roots root
roots_∈ L E {r} m = let k = keep_∈ (root L E) (rows L) m in (rows_∈ L k.0, eqb-true (label L E r) r k.1)

pub distinct_roots : (L : Layout) (E : List ℕ) → Distinct (roots L E)
unfolding roots
distinct_roots L E = distinct_keep (root L E) (distinct_rows L)

-- a place whose rows are not: the higher of their two roots is one no more
pub roots_merged : (L : Layout) (c : ℕ) (E : List ℕ) → label L E (top L c) ≢ label L E (bottom L c)
    → roots L (c ∷ E) ≡ without (max (label L E (top L c)) (label L E (bottom L c))) (roots L E)
unfolding roots root without label
roots_merged L c E n =
    let a : ℕ = label L E (top L c) in
    let b : ℕ = label L E (bottom L c) in
    keep_ext (λ r. eqb (merge a b (label L E r)) r) (λ r. eqb (label L E r) r && not (eqb r (max a b))) (rows L)
    (λ r m. merged_root a b (label L E r) r n
    (⊎_elim (λ e. rw e (label_idem L E (top L c))) (λ e. rw e (label_idem L E (bottom L c)))))
    ∙ sym (keep_keep (λ r. not (eqb r (max a b))) (root L E) (rows L))

module _ (L : Layout) (ok : Valid L) where
  pub roots_step : (c : ℕ) (E : List ℕ) → ¬ (Connected L E (top L c) (bottom L c)) → suc (length (roots L (c ∷ E))) ≡ length (roots L E)
  roots_step c E n =
      let a : ℕ = label L E (top L c) in
      let b : ℕ = label L E (bottom L c) in
      let top_in : a ∈ roots L E = ∈_roots L E (label_lt L E (meets_row L ok c (inl refl))) (label_idem L E (top L c)) in
      let bottom_in : b ∈ roots L E = ∈_roots L E (label_lt L E (meets_row L ok c (inr refl))) (label_idem L E (bottom L c)) in
      let m : max a b ∈ roots L E = ⊎_elim (λ e. rw e top_in) (λ e. rw e bottom_in) (max_one a b) in
      ap (λ l. suc (length l)) (roots_merged L c E (λ e. n (label_connected L E (top L c) (bottom L c) e)))
      ∙ length_without (distinct_roots L E) m

  pub roots_forest : {E : List ℕ} → Forest L E → length E + length (roots L E) ≡ 2 * L.t
  roots_forest forest_none = omega (arith, roots_none L)
  roots_forest (forest_more {c = c} {cs = es} n f) = omega (arith, roots_step c es n, roots_forest f)
