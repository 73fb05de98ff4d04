-- Erasures of which no row has exactly one: why they hold a cycle, and when their rows have none or two.
-- Main results: leaf and stuck_cycle (a forest has a row with one; they are no forest), twos (one place more than a forest, and stuck: every row has none or two),
-- cycle_survives (settling takes no place of a cycle), top_next, bottom_next and last_next (a cycle read off the sums of its rows).
use Rattle.std.specs.Prelude.{◌≡◌, refl, ◌≢◌, ◌⊎◌, List, [], ◌∷◌, eqb}
use Rattle.std.proofs.Common.{sym, ◌∙◌, ap, ap₂, subst, ⊎_elim, arith, eq-eqb, ne_eqb}
use Rattle.std.proofs.Math.Logic.{inl, inr, by_cases}
use Rattle.std.proofs.Math.Bool.{not}
use mathlib.Core.List.Memᴰ
use mathlib.Core.List.Memᴰ.{head as first}
use mathlib.Core.List.Memᴰ.{tail as later}
use Prim.Native.Nat.{ℕ, suc, ◌+◌, ◌-◌, ◌*◌, ◌≤◌, ◌<◌}
use Rattle.std.proofs.Math.Decide.{ℕ_discrete}
use Rattle.std.proofs.Math.ListN.{length}
use Rattle.math.specs.Members.{◌∈◌, without, Rising, Distinct, distinct_none, distinct_more}
use Rattle.math.specs.MembersLaws.{by_place, dec_in, length_without, without_∈, rising_distinct}
use Rattle.math.specs.Pigeonhole.{get_or_∈, ∈_get_or, distinct_covers, find_in}
use Rattle.math.specs.Xor.{◌⊕◌, ⊕_zero, ⊕_self, ⊕_self_left}
use Rattle.math.specs.Sums.{sum_over, only}
use Rattle.math.specs.SumsLaws.{only_true, only_false, sum_over_le, sum_over_two}
use Rattle.plan.specs.Layout.{Layout, Valid, top, bottom}
use Rattle.code.specs.Places.{places, rows, Meets}
use Rattle.code.specs.Codewords.{at, syndrome}
use Rattle.code.specs.Cycles.{Cycle}
use Rattle.code.specs.Laws.Forest.{Erased, Forest}
use Rattle.code.proofs.Laws.Basics.{∈_rows, rows_∈, meets_row, syndrome_add, syndrome_zero}
use Rattle.code.specs.Rounds.{on_row}
use Rattle.code.proofs.Laws.Leaves.{∈_on_row, distinct_on_row, length_on_row_le, on_row_some, forest_sub, incidences, touched, touched_sub, doubles, forest_touched}
use Rattle.code.proofs.Laws.CycleLaws.{Mates, top_mates, bottom_mates, last_mates, indicator, indicator_in, indicator_out, cycle_indicator, cycle_inside}
use Rattle.tables.specs.Picture.{Settles, Stuck}

-- ---- sums

-- a sum that is no less than a smaller one is the same member by member
sum_over_tight : (l : List ℕ) (f g : ℕ → ℕ) → ((c : ℕ) → c ∈ l → f c ≤ g c) → sum_over l g ≤ sum_over l f → (c : ℕ) → c ∈ l → f c ≡ g c
unfolding sum_over
sum_over_tight [] f g h k c m = absurd (Memᴰ.not-nil m)
sum_over_tight (d ∷ l) f g h k c m =
    let a : f d ≤ g d = h d (first refl) in
    let b : sum_over l f ≤ sum_over l g = sum_over_le l f g (λ e i. h e (later i)) in
    by_place m
    (λ e. let z : f d ≡ g d = omega arith in rw e z)
    (λ i. sum_over_tight l f g (λ e j. h e (later j)) (omega arith) c i)

-- where no row has exactly one, a touched row has no less than 2
stuck_two : (L : Layout) (E : List ℕ) → Stuck L E → (r : ℕ) → r ∈ rows L → only (not (eqb (length (on_row L E r)) 0)) 2 ≤ length (on_row L E r)
unfolding Stuck
stuck_two L E s r m =
    by_cases (ℕ_discrete (length (on_row L E r)) 0)
    (λ e. rw (only_false 2 (ap not (eq-eqb (length (on_row L E r)) 0 e))) (omega arith))
    (λ n. rw (only_true 2 (ap not (ne_eqb (length (on_row L E r)) 0 n))) (omega (arith, s r (rows_∈ L m))))

module _ (L : Layout) (ok : Valid L) where
  stuck_touched : (E : List ℕ) → Stuck L E → length (touched L E) ≤ length E
  stuck_touched E s =
      let h = sum_over_le (rows L) (λ r. only (not (eqb (length (on_row L E r)) 0)) 2) (λ r. length (on_row L E r)) (stuck_two L E s) in
      omega (arith, doubles L E, incidences L ok E)

  -- stuck erasures are no forest
  pub stuck_cycle : {E : List ℕ} → Stuck L E → 0 < length E → ¬ (Forest L E)
  stuck_cycle {E} s h f = omega (arith, forest_touched L ok f (get_or_∈ E h), stuck_touched E s)

  -- a forest has a row with exactly one place
  pub leaf : {E : List ℕ} → Forest L E → 0 < length E → (r : ℕ) × (r < 2 * L.t) × (length (on_row L E r) ≡ 1)
  unfolding Stuck
  leaf {E} f h = elim (find_in (λ r. ℕ_discrete (length (on_row L E r)) 1) (rows L)) [
    | inl t ↦ (t.0, rows_∈ L t.1, t.2)
    | inr none ↦ absurd (stuck_cycle (λ r g. none r (∈_rows L g)) h f)
  ]

  pub stuck_none : {E F : List ℕ} → Rising F → Forest L F → Rising E → ((c : ℕ) → c ∈ E → c ∈ F) → Stuck L E → E ≡ []
  stuck_none {E = []} rf f re sub s = refl
  stuck_none {E = c ∷ E} rf f re sub s = absurd (stuck_cycle s (omega arith) (forest_sub L ok rf re sub f))

  -- one place more than a forest, and stuck
  pub twos : {E : List ℕ} {c : ℕ} → Rising E → c ∈ E → Forest L (without c E) → Stuck L E
      → (r : ℕ) → r < 2 * L.t → (length (on_row L E r) ≡ 0) ⊎ (length (on_row L E r) ≡ 2)
  unfolding Stuck
  twos {E} {c} a m f s r h =
      let g : suc (length (without c E)) ≡ length E = length_without (rising_distinct a) m in
      by_cases (ℕ_discrete (length (without c E)) 0)
      (λ z. absurd (s (top L c) (meets_row L ok c (inl refl)) (omega (arith, on_row_some L m (inl refl), length_on_row_le L E (top L c)))))
      (λ n. let k : length (without c E) < length (touched L (without c E)) = forest_touched L ok f (get_or_∈ (without c E) {i = 0} (omega arith)) in
      let t : length (touched L (without c E)) ≤ length (touched L E) = touched_sub L (λ e i. (without_∈ c E i).0) in
      let e = sum_over_tight (rows L) (λ q. only (not (eqb (length (on_row L E q)) 0)) 2) (λ q. length (on_row L E q)) (stuck_two L E s)
      (omega (arith, doubles L E, incidences L ok E)) r (∈_rows L h) in
      by_cases (ℕ_discrete (length (on_row L E r)) 0) inl
      (λ o. inr (sym e ∙ only_true 2 (ap not (ne_eqb (length (on_row L E r)) 0 o)))))

  -- ---- settling

  -- settling takes no place of a cycle: a filling and the same with the cycle's places changed would both be forced
  pub cycle_survives_from : {E F l place value : List ℕ} {u x : ℕ → ℕ} {k : ℕ} → Settles L E u F x place value k → Erased L E → Cycle L E l
      → (y : ℕ → ℕ) → ((r : ℕ) → r < 2 * L.t → syndrome L y r ≡ 0) → ((c : ℕ) → c ∈ places L → ¬ (c ∈ E) → y c ≡ u c) → (c : ℕ) → c ∈ l → c ∈ F
  cycle_survives_from {E} {F} {l} {x} s er cy y sums off c m = by_cases (dec_in c F) (λ i. i) (λ n.
      let w : ℕ → ℕ = λ d. y d ⊕ indicator l d in
      let p : c ∈ places L = cycle_inside L ok cy er c m in
      let same : y c ≡ x c = s.forced y sums off c p n in
      let changed : y c ⊕ indicator l c ≡ x c = s.forced w
      (λ r h. syndrome_add L y (indicator l) r ∙ ap₂ ◌⊕◌ (sums r h) (cycle_indicator L ok cy er r) ∙ ⊕_zero 0)
      (λ d i o. ap (λ z. y d ⊕ z) (indicator_out (λ j. let t = ∈_get_or j in o (Memᴰ.cast (sym t.2) (cy.inside t.0 t.1)))) ∙ ⊕_zero (y d) ∙ off d i o)
      c p n in
      let z : ◌≡◌ {A = ℕ} 1 0 = sym (indicator_in m) ∙ sym (⊕_self_left (y c) (indicator l c)) ∙ ap (λ z. y c ⊕ z) (changed ∙ sym same) ∙ ⊕_self (y c) in
      absurd (omega arith))

  pub cycle_survives : {E F l place value : List ℕ} {u x : ℕ → ℕ} {k : ℕ} → Settles L E u F x place value k → ((c : ℕ) → u c ≡ 0)
      → Erased L E → Cycle L E l → (c : ℕ) → c ∈ l → c ∈ F
  cycle_survives s z er cy = cycle_survives_from s er cy (λ c. 0) (λ r h. syndrome_zero L r) (λ c i n. sym (z c))

-- a cycle is one of any erasures that have its places
pub cycle_into : {L : Layout} {E F l : List ℕ} → Cycle L E l → ((c : ℕ) → c ∈ l → c ∈ F) → Cycle L F l
cycle_into {l} cy h =
    record {
      half = cy.half;
      even = cy.even;
      least = cy.least;
      inside = λ i m. h (at l i) (get_or_∈ l m);
      distinct = cy.distinct;
      share_top = cy.share_top;
      share_bottom = cy.share_bottom;
      close = cy.close;
      tops_once = cy.tops_once;
      bottoms_once = cy.bottoms_once;
      lowest = cy.lowest;
    }

-- ---- rows with two places

-- a row with none or two that a place meets has two
pub met_two : (L : Layout) {E : List ℕ} {c r : ℕ} → c ∈ E → Meets L c r → (length (on_row L E r) ≡ 0) ⊎ (length (on_row L E r) ≡ 2) → length (on_row L E r) ≡ 2
met_two L m h (inl e) = absurd (omega (arith, on_row_some L m h))
met_two L m h (inr e) = e

module _ (L : Layout) {E : List ℕ} {c d : ℕ} (r : ℕ) (once-each : Distinct E) (c-in : c ∈ E) (d-in : d ∈ E) (differ : c ≢ d)
    (c-on : Meets L c r) (d-on : Meets L d r) (two : length (on_row L E r) ≡ 2) where
  pub pair_only : (e : ℕ) → e ∈ on_row L E r → (e ≡ c) ⊎ (e ≡ d)
  pair_only e m =
      let pair : Distinct (c ∷ d ∷ []) = distinct_more (λ i. by_place i differ Memᴰ.not-nil) (distinct_more Memᴰ.not-nil distinct_none) in
      by_place (distinct_covers pair (λ b i. by_place i
      (λ q. Memᴰ.cast q (∈_on_row L c-in c-on))
      (λ j. by_place j (λ q. Memᴰ.cast q (∈_on_row L d-in d-on)) (λ k. absurd (Memᴰ.not-nil k))))
      (omega arith) e m) inl
      (λ i. by_place i inr (λ k. absurd (Memᴰ.not-nil k)))

  pub pair_sum : (f : ℕ → ℕ) → sum_over (on_row L E r) f ≡ f c + f d
  pair_sum f =
      sum_over_two f (distinct_on_row L r once-each) (∈_on_row L c-in c-on) (∈_on_row L d-in d-on) differ
      (λ e m a b. ⊎_elim (λ q. absurd (a q)) (λ q. absurd (b q)) (pair_only e m))

-- two places of a cycle that share a row, where the row has no others
module _ {L : Layout} {E l : List ℕ} {i j : ℕ} (row : ℕ → ℕ) (on : (c : ℕ) → Meets L c (row c)) (up : Rising E) (cy : Cycle L E l) (ms : Mates row l i j)
    (two : length (on_row L E (row (at l i))) ≡ 2) where
  apart : at l i ≢ at l j
  apart e = ms.differ (cy.distinct i j ms.left ms.right e)

  shared : Meets L (at l j) (row (at l i))
  shared = subst (λ r. Meets L (at l j) r) (sym ms.same) (on (at l j))

  pub mates_sum : (f : ℕ → ℕ) → sum_over (on_row L E (row (at l i))) f ≡ f (at l i) + f (at l j)
  mates_sum = pair_sum L (row (at l i)) (rising_distinct up) (cy.inside i ms.left) (cy.inside j ms.right) apart (on (at l i)) shared two

module _ {L : Layout} {E l : List ℕ} (up : Rising E) (cy : Cycle L E l) where
  pub top_next : (i : ℕ) → i < cy.half → length (on_row L E (top L (at l (2 * i)))) ≡ 2
      → (f : ℕ → ℕ) → sum_over (on_row L E (top L (at l (2 * i)))) f ≡ f (at l (2 * i)) + f (at l (2 * i + 1))
  top_next i h = mates_sum (top L) (λ c. inl refl) up cy (top_mates cy i h)

  pub bottom_next : (i : ℕ) → i + 1 < cy.half → length (on_row L E (bottom L (at l (2 * i + 1)))) ≡ 2
      → (f : ℕ → ℕ) → sum_over (on_row L E (bottom L (at l (2 * i + 1)))) f ≡ f (at l (2 * i + 1)) + f (at l (2 * i + 2))
  bottom_next i h = mates_sum (bottom L) (λ c. inr refl) up cy (bottom_mates cy i h)

  pub last_next : length (on_row L E (bottom L (at l (length l - 1)))) ≡ 2
      → (f : ℕ → ℕ) → sum_over (on_row L E (bottom L (at l (length l - 1)))) f ≡ f (at l (length l - 1)) + f (at l 0)
  last_next = mates_sum (bottom L) (λ c. inr refl) up cy (last_mates cy)
