-- Sums over the rows of one label. Erased places do not enter them; they are all 0 exactly when the erasures can be filled.
-- Main results: crossed (T2), exists (T3), inconsistent_or_balanced.
use Rattle.std.specs.Prelude.{◌≡◌, refl, ◌≢◌, ◌⊎◌, List, [], ◌∷◌, length}
use Rattle.std.proofs.Math.Path.{sym, ap}
use Rattle.std.proofs.Common.{◌∙◌, inl, inr, ⊎_elim, mod-eq_of_lt, arith, eq-eqb, ne_eqb, eqb-true}
use Rattle.std.proofs.Math.Logic.{by_cases}
use mathlib.Core.Logic.Dec
use mathlib.Core.List.Memᴰ.{head}
use mathlib.Core.List.Memᴰ.{tail}
use Prim.Native.Nat.{ℕ, ◌*◌, ◌%◌, ◌<◌, min}
use Rattle.std.proofs.Math.Decide.{ℕ_discrete}
use Rattle.std.proofs.Math.Dec.{eqb}
use Rattle.math.specs.Members.{◌∈◌}
use Rattle.math.specs.MembersLaws.{by_test, dec_in, ∉_is_in}
use Rattle.math.specs.Pigeonhole.{first_in}
use Rattle.math.specs.Xor.{◌⊕◌, xor, ⊕_self, ⊕_zero, zero_⊕}
use Rattle.math.specs.Sums.{xor_over, only}
use Rattle.math.specs.SumsLaws.{only_true, only_false, only_zero, only_⊕, xor_over_ext, xor_over_zero, xor_over_add, xor_over_at, xor_over_one, xor_over_keep, xor_over_some}
use Rattle.plan.specs.Layout.{Layout, Valid, top, bottom}
use Rattle.code.specs.Places.{places, rows}
use Rattle.code.specs.Codewords.{at, syndrome, blank, Agrees}
use Rattle.code.specs.Components.{Connected, Component, imbalance, Inconsistent}
use Rattle.code.specs.Laws.Forest.{Erased}
use Rattle.code.proofs.Laws.Basics.{∈_rows, rows_∈, rising_rows, distinct_rows, distinct_places, class_sum_lem, syndrome_add, word, word_at, word_codeword}
use Rattle.code.specs.Laws.Labels.{merge, label, component_of}
use Rattle.code.proofs.Laws.Labels.{by_merge, min_one, label_connected, label_place, label_same, label_le, dec_connected, component_of_first, component_is, component_unique, component_first}

-- the sum of the syndromes of the rows with label q
unfoldable pub class_sum : Layout → List ℕ → ℕ → (ℕ → ℕ) → ℕ
class_sum L E q x = xor_over (rows L) (λ r. only (eqb (label L E r) q) (syndrome L x r))

-- the block that is s at c, and 0 elsewhere
unfoldable pub single : ℕ → ℕ → ℕ → ℕ
single c s d = only (eqb d c) s

pub single_same : (c s : ℕ) → single c s c ≡ s
unfolding single
single_same c s = only_true s (eq-eqb c c refl)

pub single_other : {c d : ℕ} (s : ℕ) → d ≢ c → single c s d ≡ 0
unfolding single
single_other {c} {d} s n = only_false s (ne_eqb d c n)

pub blank_outside : {c : ℕ} {E : List ℕ} (v : ℕ → ℕ) → ¬ (c ∈ E) → blank E v c ≡ v c
unfolding blank
blank_outside v n = rw (∉_is_in n)

-- equal tests of labels
same_test : (a b q : ℕ) → a ≡ b → eqb a q ≡ eqb b q
same_test a b q e = ap (λ x. eqb x q) e

-- a merged label is the lower of the two exactly where the label was one of them
merged_test : (a b x s : ℕ) → a ≢ b → only (eqb (merge a b x) (min a b)) s ≡ only (eqb x a) s ⊕ only (eqb x b) s
merged_test a b x s n =
    by_merge a b x
    (λ i e. only_true s (eq-eqb (merge a b x) (min a b) e) ∙ ⊎_elim
    (λ p. sym (rw (only_true s (eq-eqb x a p), only_false s (ne_eqb x b (λ q. n (sym p ∙ q)))) (⊕_zero s)))
    (λ p. sym (rw (only_true s (eq-eqb x b p), only_false s (ne_eqb x a (λ q. n (sym q ∙ p)))) (zero_⊕ s))) i)
    (λ f g e. only_false s (ne_eqb (merge a b x) (min a b) (λ q. ⊎_elim (λ p. f (sym e ∙ q ∙ p)) (λ p. g (sym e ∙ q ∙ p)) (min_one a b)))
    ∙ sym (rw (only_false s (ne_eqb x a f), only_false s (ne_eqb x b g)) (⊕_zero 0)))

other_test : (a b x q : ℕ) → q ≢ a → q ≢ b → eqb (merge a b x) q ≡ eqb x q
other_test a b x q f g =
    by_merge a b x
    (λ i e. ne_eqb (merge a b x) q (λ p. ⊎_elim (λ m. f (sym p ∙ e ∙ m)) (λ m. g (sym p ∙ e ∙ m)) (min_one a b))
    ∙ sym (ne_eqb x q (λ p. ⊎_elim (λ m. f (sym p ∙ m)) (λ m. g (sym p ∙ m)) i)))
    (λ n m e. same_test (merge a b x) x q e)

pub class_sum_zero : (L : Layout) (E : List ℕ) (q : ℕ) (x : ℕ → ℕ) → ((r : ℕ) → r < 2 * L.t → syndrome L x r ≡ 0) → class_sum L E q x ≡ 0
unfolding class_sum
class_sum_zero L E q x h =
    xor_over_zero (rows L) (λ r. only (eqb (label L E r) q) (syndrome L x r))
    (λ r m. ap (only (eqb (label L E r) q)) (h r (rows_∈ L m)) ∙ only_zero (eqb (label L E r) q))

pub class_sum_add : (L : Layout) (E : List ℕ) (q : ℕ) (x y : ℕ → ℕ) → class_sum L E q (λ c. x c ⊕ y c) ≡ class_sum L E q x ⊕ class_sum L E q y
unfolding class_sum
class_sum_add L E q x y =
    xor_over_ext (rows L) (λ r. only (eqb (label L E r) q) (syndrome L (λ c. x c ⊕ y c) r))
    (λ r. only (eqb (label L E r) q) (syndrome L x r) ⊕ only (eqb (label L E r) q) (syndrome L y r))
    (λ r m. ap (only (eqb (label L E r) q)) (syndrome_add L x y r) ∙ only_⊕ (eqb (label L E r) q) (syndrome L x r) (syndrome L y r))
    ∙ xor_over_add (rows L) (λ r. only (eqb (label L E r) q) (syndrome L x r)) (λ r. only (eqb (label L E r) q) (syndrome L y r))

-- with no erasures: the syndromes themselves
pub class_sum_none : (L : Layout) {q : ℕ} (x : ℕ → ℕ) → q < 2 * L.t → class_sum L [] q x ≡ syndrome L x q
unfolding class_sum label
class_sum_none L {q} x h = xor_over_at (syndrome L x) (distinct_rows L) (∈_rows L h)

-- one more place with rows that are connected
pub class_sum_same : (L : Layout) (c : ℕ) (E : List ℕ) → Connected L E (top L c) (bottom L c) → (q : ℕ) (x : ℕ → ℕ)
    → class_sum L (c ∷ E) q x ≡ class_sum L E q x
unfolding class_sum
class_sum_same L c E p q x =
    xor_over_ext (rows L) (λ r. only (eqb (label L (c ∷ E) r) q) (syndrome L x r)) (λ r. only (eqb (label L E r) q) (syndrome L x r))
    (λ r m. ap (λ b. only b (syndrome L x r)) (same_test (label L (c ∷ E) r) (label L E r) q (label_same L c E p r)))

-- one more place with rows that are not: their two classes become one, the others stay
pub class_sum_merged : (L : Layout) (c : ℕ) (E : List ℕ) → label L E (top L c) ≢ label L E (bottom L c) → (x : ℕ → ℕ)
    → class_sum L (c ∷ E) (min (label L E (top L c)) (label L E (bottom L c))) x
    ≡ class_sum L E (label L E (top L c)) x ⊕ class_sum L E (label L E (bottom L c)) x
unfolding class_sum label
class_sum_merged L c E n x =
    let a : ℕ = label L E (top L c) in
    let b : ℕ = label L E (bottom L c) in
    xor_over_ext (rows L) (λ r. only (eqb (merge a b (label L E r)) (min a b)) (syndrome L x r))
    (λ r. only (eqb (label L E r) a) (syndrome L x r) ⊕ only (eqb (label L E r) b) (syndrome L x r))
    (λ r m. merged_test a b (label L E r) (syndrome L x r) n)
    ∙ xor_over_add (rows L) (λ r. only (eqb (label L E r) a) (syndrome L x r)) (λ r. only (eqb (label L E r) b) (syndrome L x r))

pub class_sum_other : (L : Layout) (c : ℕ) (E : List ℕ) (q : ℕ) → q ≢ label L E (top L c) → q ≢ label L E (bottom L c) → (x : ℕ → ℕ)
    → class_sum L (c ∷ E) q x ≡ class_sum L E q x
unfolding class_sum label
class_sum_other L c E q f g x =
    let a : ℕ = label L E (top L c) in
    let b : ℕ = label L E (bottom L c) in
    xor_over_ext (rows L) (λ r. only (eqb (merge a b (label L E r)) q) (syndrome L x r)) (λ r. only (eqb (label L E r) q) (syndrome L x r))
    (λ r m. ap (λ t. only t (syndrome L x r)) (other_test a b (label L E r) q f g))

pub class_sum_component : (L : Layout) (E : List ℕ) (x : ℕ → ℕ) (r : ℕ) → xor_over (component_of L E r) (syndrome L x) ≡ class_sum L E (label L E r) x
unfolding class_sum component_of
class_sum_component L E x r = xor_over_keep (λ s. eqb (label L E s) (label L E r)) (rows L) (syndrome L x)

some_row : (L : Layout) (E : List ℕ) (q : ℕ) (x : ℕ → ℕ) → class_sum L E q x ≢ 0 → (r : ℕ) × (r < 2 * L.t) × (label L E r ≡ q)
unfolding class_sum
some_row L E q x n =
    let t = xor_over_some (rows L) (λ r. only (eqb (label L E r) q) (syndrome L x r)) n in
    (t.0, rows_∈ L t.1, by_test (eqb (label L E t.0) q) (eqb-true (label L E t.0) q) (λ f. absurd (t.2 (only_false (syndrome L x t.0) f))))

-- all class sums are 0 if those of the rows' labels are
pub class_sum_rows : (L : Layout) (E : List ℕ) (q : ℕ) (x : ℕ → ℕ) → ((r : ℕ) → r < 2 * L.t → class_sum L E (label L E r) x ≡ 0) → class_sum L E q x ≡ 0
class_sum_rows L E q x h =
    by_cases (ℕ_discrete (class_sum L E q x) 0) (λ e. e)
    (λ n. let t = some_row L E q x n in ap (λ p. class_sum L E p x) (sym t.2) ∙ h t.0 t.1)

-- the sum of the first class, put at a place between two classes, makes both 0
shared : (a b q : ℕ) (f : ℕ → ℕ) → a ≢ b → f a ⊕ f b ≡ 0 → (q ≢ a → q ≢ b → f q ≡ 0) → f q ⊕ (only (eqb a q) (f a) ⊕ only (eqb b q) (f a)) ≡ 0
shared a b q f n z o =
    by_cases (ℕ_discrete q a)
    (λ e. rw (e, only_true (f a) (eq-eqb a a refl), only_false (f a) (ne_eqb b a (λ p. n (sym p)))) (simp xor))
    (λ k. by_cases (ℕ_discrete q b)
    (λ e. rw (e, only_false (f a) (ne_eqb a b n), only_true (f a) (eq-eqb b b refl)) (simp xor z))
    (λ m. rw (o k m, only_false (f a) (ne_eqb a q (λ p. k (sym p))), only_false (f a) (ne_eqb b q (λ p. m (sym p)))) (simp xor)))

module _ (L : Layout) (ok : Valid L) where
  pub class_sum_places : (E : List ℕ) (q : ℕ) (x : ℕ → ℕ)
      → class_sum L E q x ≡ xor_over (places L) (λ c. only (eqb (label L E (top L c)) q) (x c) ⊕ only (eqb (label L E (bottom L c)) q) (x c))
  unfolding class_sum
  class_sum_places E q x = class_sum_lem L ok (λ r. eqb (label L E r) q) x

  -- what stands at erased places does not enter
  pub class_sum_ext : (E : List ℕ) (q : ℕ) (x y : ℕ → ℕ) → ((c : ℕ) → c ∈ places L → ¬ (c ∈ E) → x c ≡ y c) → class_sum L E q x ≡ class_sum L E q y
  class_sum_ext E q x y h =
      class_sum_places E q x
      ∙ xor_over_ext (places L) (λ c. only (eqb (label L E (top L c)) q) (x c) ⊕ only (eqb (label L E (bottom L c)) q) (x c))
      (λ c. only (eqb (label L E (top L c)) q) (y c) ⊕ only (eqb (label L E (bottom L c)) q) (y c))
      (λ c m. by_cases (dec_in c E)
      (λ k. rw (label_place L k) (⊕_self (only (eqb (label L E (bottom L c)) q) (x c)) ∙ sym (⊕_self (only (eqb (label L E (bottom L c)) q) (y c)))))
      (λ n. rw (h c m n)))
      ∙ sym (class_sum_places E q y)

  pub class_sum_single : (E : List ℕ) (q : ℕ) {c : ℕ} (s : ℕ) → c ∈ places L
      → class_sum L E q (single c s) ≡ only (eqb (label L E (top L c)) q) s ⊕ only (eqb (label L E (bottom L c)) q) s
  class_sum_single E q {c} s m =
      let f : ℕ → ℕ = λ d. only (eqb (label L E (top L d)) q) (single c s d) ⊕ only (eqb (label L E (bottom L d)) q) (single c s d) in
      class_sum_places E q (single c s)
      ∙ xor_over_one f (distinct_places L) m
      (λ d k n. simp (single_other s n, only_zero, ⊕_zero))
      ∙ rw (single_same c s)

  -- T2
  pub crossed : (E : List ℕ) → Erased L E → (v : ℕ → ℕ) (l : List ℕ) → Component L E l → imbalance L E v l ≢ 0 →
      (w : ℕ → ℕ) → ((c : ℕ) → c ∈ places L → ¬ (c ∈ E) → w c ≡ v c) → (r : ℕ) × (r ∈ l) × (syndrome L w r ≢ 0)
  unfolding imbalance
  crossed E er v l p n w h =
      let sums : (x : ℕ → ℕ) → xor_over l (syndrome L x) ≡ class_sum L E (label L E (at l 0)) x =
      λ x. ap (λ m. xor_over m (syndrome L x)) (component_unique p) ∙ class_sum_component L E x (at l 0) in
      xor_over_some l (syndrome L w) (λ z. n (sums (blank E v)
      ∙ class_sum_ext E (label L E (at l 0)) (blank E v) w (λ c m k. blank_outside v k ∙ sym (h c m k))
      ∙ sym (sums w) ∙ z))

  settled : {c : ℕ} (E : List ℕ) (x : ℕ → ℕ) → c ∈ places L → label L E (top L c) ≢ label L E (bottom L c) → ((q : ℕ) → class_sum L (c ∷ E) q x ≡ 0)
      → (q : ℕ) → class_sum L E q (λ d. x d ⊕ single c (class_sum L E (label L E (top L c)) x) d) ≡ 0
  settled {c} E x m n h q =
      let a : ℕ = label L E (top L c) in
      let b : ℕ = label L E (bottom L c) in
      class_sum_add L E q x (single c (class_sum L E a x))
      ∙ ap (λ (z : ℕ). class_sum L E q x ⊕ z) (class_sum_single E q (class_sum L E a x) m)
      ∙ shared a b q (λ p. class_sum L E p x) n (sym (class_sum_merged L c E n x) ∙ h (min a b)) (λ f g. sym (class_sum_other L c E q f g x) ∙ h q)

  -- T3 for functions: class sums that are all 0 can be brought to the rows, one erased place after the other
  pub fill : (E : List ℕ) → ((c : ℕ) → c ∈ E → c ∈ places L) → (x : ℕ → ℕ) → ((q : ℕ) → class_sum L E q x ≡ 0)
      → (y : ℕ → ℕ) × ((c : ℕ) → ¬ (c ∈ E) → y c ≡ x c) × ((r : ℕ) → r < 2 * L.t → syndrome L y r ≡ 0)
  fill [] i x h = (x, (λ c n. refl), (λ r m. sym (class_sum_none L x m) ∙ h r))
  fill (c ∷ es) i x h =
      by_cases (dec_connected L es (top L c) (bottom L c))
      (λ p. let t = fill es (λ d m. i d (tail m)) x (λ q. sym (class_sum_same L c es p q x) ∙ h q) in
      (t.0, (λ d n. t.1 d (λ m. n (tail m))), t.2))
      (λ n. let s : ℕ = class_sum L es (label L es (top L c)) x in
      let t = fill es (λ d m. i d (tail m)) (λ d. x d ⊕ single c s d)
      (settled es x (i c (head refl)) (λ e. n (label_connected L es (top L c) (bottom L c) e)) h) in
      (t.0, (λ d k. t.1 d (λ m. k (tail m)) ∙ (rw (single_other s (λ e. k (head e))) (⊕_zero (x d)))), t.2))

  -- every class sum is 0 if every component adds up to 0
  pub balanced_classes : (E : List ℕ) (v : ℕ → ℕ) → ((l : List ℕ) → Component L E l → imbalance L E v l ≡ 0) → (q : ℕ) → class_sum L E q (blank E v) ≡ 0
  unfolding imbalance
  balanced_classes E v h q =
      class_sum_rows L E q (blank E v) (λ r m. sym (class_sum_component L E (blank E v) r) ∙ h (component_of L E r) (component_is L E m))

  -- T3
  pub exists : (E v : List ℕ) → Erased L E → length v ≡ L.n * L.t → ((c : ℕ) → at v c < 256) →
      ((l : List ℕ) → Component L E l → imbalance L E (at v) l ≡ 0) → (w : List ℕ) × Agrees L E v w
  exists E v er len byte h =
      let t = fill E er.inside (blank E (at v)) (balanced_classes E (at v) h) in (
        word L t.0,
        record {
          codeword = word_codeword L t.0 t.2;
          unmarked = λ c m n. word_at L t.0 m ∙ ap (λ x. x % 256) (t.1 c n ∙ blank_outside (at v) n) ∙ mod-eq_of_lt (byte c);
        },
      )

  -- a lowest component that does not add up to 0, or all do
  pub inconsistent_or_balanced : (E : List ℕ) (v : ℕ → ℕ) →
      ((l : List ℕ) × Inconsistent L E v l) ⊎ ((l : List ℕ) → Component L E l → imbalance L E v l ≡ 0)
  inconsistent_or_balanced E v = elim (first_in (λ r. Dec.not (ℕ_discrete (imbalance L E v (component_of L E r)) 0)) (rising_rows L)) [
    | inl t ↦ inl (
      component_of L E t.0,
      record {
        component = component_is L E (rows_∈ L t.1);
        unbalanced = t.2;
        lowest = λ m p n. omega (
          arith,
          component_of_first L E (rows_∈ L t.1),
          label_le L E t.0,
          t.3 (at m 0) (∈_rows L (component_first ok.positive p)) (λ z. n (ap (imbalance L E v) (component_unique p) ∙ z)),
        );
      },
    )
    | inr none ↦ inr (λ l p. by_cases (ℕ_discrete (imbalance L E v l) 0) (λ e. e)
        (λ n. absurd (none (at l 0) (∈_rows L (component_first ok.positive p)) (λ z. n (ap (imbalance L E v) (component_unique p) ∙ z)))))
  ]
