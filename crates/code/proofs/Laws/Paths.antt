-- T5: the rows of c are connected by the erasures above c exactly when c is the lowest place of a cycle of erasures.
-- Forward by a path with no row twice (`SimplePath`, loops cut out), whose places with c in front are the cycle; backward by walking the cycle.
-- Main results: path, and the laws of `above`.
use Rattle.std.specs.Prelude.{◌≡◌, refl, ◌↔◌, ◌≢◌, List, [], ◌∷◌, ◌++◌, ℕ, zero, suc, ◌+◌, ◌-◌, ◌*◌, ◌/◌, ◌%◌, ◌≤◌, ◌<◌, ltb, length}
use Rattle.std.proofs.Common.{sym, ◌∙◌, ap, subst, inl, inr, arith, add-one, ltb-true, lt-ltb, le-ltb}
use Rattle.std.proofs.Math.Logic.{by_cases}
use mathlib.Core.List.Memᴰ
use mathlib.Core.List.Memᴰ.{head as first}
use mathlib.Core.List.Memᴰ.{tail as later}
use Rattle.std.proofs.Math.Decide.{ℕ_discrete}
use Rattle.std.proofs.Math.Numerals.{add-two}
use Rattle.math.specs.Members.{◌∈◌, keep, Rising, rising_more, Distinct, distinct_none, distinct_more}
use Rattle.math.specs.MembersLaws.{by_place, dec_in, ∈_keep, keep_∈, keep_all, rising_keep, rising_tail}
use Rattle.math.specs.Pigeonhole.{distinct_get_or}
use Rattle.plan.specs.Layout.{Layout, Valid, top, bottom}
use Rattle.code.specs.Places.{Meets}
use Rattle.code.specs.Codewords.{at}
use Rattle.code.specs.Cycles.{Cycle, Lowest}
use Rattle.code.specs.Components.{Connected, here, along}
use Rattle.code.specs.Laws.Forest.{Erased, above}
use Rattle.code.proofs.Laws.Basics.{top_lt, bottom_ge}

-- ---- above

pub ∈_above : {c d : ℕ} {E : List ℕ} → d ∈ E → c < d → d ∈ above c E
unfolding above
∈_above {c} {d} m h = ∈_keep (λ x. ltb c x) m (lt-ltb c d h)

pub above_∈ : (c : ℕ) (E : List ℕ) {d : ℕ} → d ∈ above c E → (d ∈ E) × (c < d)
unfolding above
above_∈ c E {d} m = let k = keep_∈ (λ x. ltb c x) E m in (k.0, ltb-true c d k.1)

pub erased_above : {L : Layout} {E : List ℕ} (c : ℕ) → Erased L E → Erased L (above c E)
unfolding above
erased_above {E} c er = record { rising = rising_keep (λ x. ltb c x) er.rising; inside = λ d m. er.inside d (above_∈ c E m).0 }

pub erased_tail : {L : Layout} {c : ℕ} {E : List ℕ} → Erased L (c ∷ E) → Erased L E
erased_tail er = record { rising = rising_tail er.rising; inside = λ d m. er.inside d (later m) }

-- what follows c in a rising list is what is above c
pub above_head : {c : ℕ} {E : List ℕ} → Rising (c ∷ E) → above c (c ∷ E) ≡ E
unfolding above keep
above_head {c} {E} (rising_more h r) = rw (le-ltb c c (omega arith)) (keep_all (λ x. ltb c x) E (λ d m. lt-ltb c d (h d m)))

pub above_tail : {c d : ℕ} {E : List ℕ} → Rising (d ∷ E) → c ∈ E → above c (d ∷ E) ≡ above c E
unfolding above keep
above_tail {c} {d} (rising_more h r) m = let g : d < c = h c m in rw (le-ltb c d (omega arith))

-- the same wherever c stands
pub above_suffix : (p : List ℕ) (c : ℕ) (E : List ℕ) → Rising (p ++ (c ∷ E)) → above c (p ++ (c ∷ E)) ≡ E
above_suffix [] c E r = above_head r
above_suffix (d ∷ p) c E r = above_tail r (Memᴰ.append_right p (first refl)) ∙ above_suffix p c E (rising_tail r)

-- ---- paths with no row twice

-- the rows rs from r to s, no row twice, and the places ds of F by which each row leads to the next
pub data SimplePath (L : Layout) (F : List ℕ) : ℕ → List ℕ → List ℕ → ℕ → Type 0 where
  stop : {r : ℕ} → SimplePath L F r (r ∷ []) [] r
  step : {r u s : ℕ} {rs ds : List ℕ} (c : ℕ) → c ∈ F → Meets L c r → Meets L c u → ¬ (r ∈ rs)
      → SimplePath L F u rs ds s → SimplePath L F r (r ∷ rs) (c ∷ ds) s

-- some such path
pub record Linked (L : Layout) (F : List ℕ) (r s : ℕ) : Type 0 where
  pub rows : List ℕ
  pub by : List ℕ
  pub is_path : SimplePath L F r rows by s

module _ {L : Layout} {F : List ℕ} where
  -- the rest of a path from one of its rows on
  cut : {r u s : ℕ} {rs ds : List ℕ} → r ∈ rs → SimplePath L F u rs ds s → Linked L F r s
  cut {r} m (stop {r = u}) =
      by_place m (λ e. subst (λ x. Linked L F x u) (sym e) (record { rows = u ∷ []; by = []; is_path = stop })) (λ k. absurd (Memᴰ.not-nil k))
  cut {r} m (step {r = u} {s = s} {rs = rs} {ds = ds} c i a b n p) =
      by_place m
      (λ e. subst (λ x. Linked L F x s) (sym e) (record { rows = u ∷ rs; by = c ∷ ds; is_path = step c i a b n p }))
      (λ k. cut k p)

  extend : {r u s : ℕ} {rs ds : List ℕ} (c : ℕ) → c ∈ F → Meets L c r → Meets L c u → SimplePath L F u rs ds s → Linked L F r s
  extend {r} {rs} {ds} c i a b p =
      by_cases (dec_in r rs) (λ m. cut m p) (λ n. record { rows = r ∷ rs; by = c ∷ ds; is_path = step c i a b n p })

  onto : {r s z : ℕ} {rs ds : List ℕ} → Connected L F r s → SimplePath L F s rs ds z → Linked L F r z
  onto {rs} {ds} here p = record { rows = rs; by = ds; is_path = p }
  onto (along c q m a b) p = onto q (extend c m a b p).is_path

  pub linked : {r s : ℕ} → Connected L F r s → Linked L F r s
  linked q = onto q stop

  -- a path by its indices
  path_first : {r s : ℕ} {rs ds : List ℕ} → SimplePath L F r rs ds s → at rs 0 ≡ r
  path_first stop = refl
  path_first (step c i a b n p) = refl

  path_long : {r s : ℕ} {rs ds : List ℕ} → SimplePath L F r rs ds s → length rs ≡ suc (length ds)
  path_long stop = refl
  path_long (step c i a b n p) = ap suc (path_long p)

  path_last : {r s : ℕ} {rs ds : List ℕ} → SimplePath L F r rs ds s → at rs (length ds) ≡ s
  path_last stop = refl
  path_last (step c i a b n p) = path_last p

  path_once : {r s : ℕ} {rs ds : List ℕ} → SimplePath L F r rs ds s → Distinct rs
  path_once stop = distinct_more Memᴰ.not-nil distinct_none
  path_once (step c i a b n p) = distinct_more n (path_once p)

  path_inside : {r s : ℕ} {rs ds : List ℕ} → SimplePath L F r rs ds s → (k : ℕ) → k < length ds → at ds k ∈ F
  path_inside stop k h = absurd (omega arith)
  path_inside (step c i a b n p) zero h = i
  path_inside (step c i a b n p) (suc k) h = path_inside p k (omega arith)

  path_from : {r s : ℕ} {rs ds : List ℕ} → SimplePath L F r rs ds s → (k : ℕ) → k < length ds → Meets L (at ds k) (at rs k)
  path_from stop k h = absurd (omega arith)
  path_from (step c i a b n p) zero h = a
  path_from (step c i a b n p) (suc k) h = path_from p k (omega arith)

  path_to : {r s : ℕ} {rs ds : List ℕ} → SimplePath L F r rs ds s → (k : ℕ) → k < length ds → Meets L (at ds k) (at rs (suc k))
  path_to stop k h = absurd (omega arith)
  path_to (step c i a b n p) zero h = subst (λ x. Meets L c x) (sym (path_first p)) b
  path_to (step c i a b n p) (suc k) h = path_to p k (omega arith)

module _ (L : Layout) (ok : Valid L) where
  -- the two rows that a place links are its top and its bottom row
  from_top : (c : ℕ) {r u : ℕ} → Meets L c r → Meets L c u → r ≢ u → r < L.t → (top L c ≡ r) × (bottom L c ≡ u)
  from_top c (inl e) (inl f) n h = absurd (n (e ∙ sym f))
  from_top c (inl e) (inr f) n h = (sym e, sym f)
  from_top c (inr e) b n h = absurd (omega (arith, bottom_ge L ok c))

  from_bottom : (c : ℕ) {r u : ℕ} → Meets L c r → Meets L c u → r ≢ u → L.t ≤ r → (bottom L c ≡ r) × (top L c ≡ u)
  from_bottom c (inr e) (inr f) n h = absurd (n (e ∙ sym f))
  from_bottom c (inr e) (inl f) n h = (sym e, sym f)
  from_bottom c (inl e) b n h = absurd (omega (arith, top_lt L ok c))

  -- on a path from a top row the rows at even positions are top rows, the others bottom rows
  module _ {F : List ℕ} {r s : ℕ} {rs ds : List ℕ} (p : SimplePath L F r rs ds s) (h : r < L.t) where
    moves : (k : ℕ) → k < length ds → at rs k ≢ at rs (suc k)
    moves k l e = let j : k ≡ suc k = distinct_get_or (path_once p) (omega (arith, path_long p)) (omega (arith, path_long p)) e in omega arith

    out_top : (k : ℕ) → k < length ds → at rs k < L.t → (top L (at ds k) ≡ at rs k) × (bottom L (at ds k) ≡ at rs (suc k))
    out_top k l g = from_top (at ds k) (path_from p k l) (path_to p k l) (moves k l) g

    out_bottom : (k : ℕ) → k < length ds → L.t ≤ at rs k → (bottom L (at ds k) ≡ at rs k) × (top L (at ds k) ≡ at rs (suc k))
    out_bottom k l g = from_bottom (at ds k) (path_from p k l) (path_to p k l) (moves k l) g

    sides : (k : ℕ) → k ≤ length ds → (k % 2 ≡ 0 → at rs k < L.t) × (k % 2 ≡ 1 → L.t ≤ at rs k)
    sides zero l = (λ e. rw (path_first p) h, λ e. absurd (omega arith))
    sides (suc k) l =
        let ih = sides k (omega arith) in (
          λ e. omega (arith, (out_bottom k l (ih.1 (omega arith))).1, top_lt L ok (at ds k)),
          λ e. omega (arith, (out_top k l (ih.0 (omega arith))).1, bottom_ge L ok (at ds k)),
        )

    even_step : (k : ℕ) → k < length ds → k % 2 ≡ 0 → (top L (at ds k) ≡ at rs k) × (bottom L (at ds k) ≡ at rs (suc k))
    even_step k l e = out_top k l ((sides k (omega arith)).0 e)

    odd_step : (k : ℕ) → k < length ds → k % 2 ≡ 1 → (bottom L (at ds k) ≡ at rs k) × (top L (at ds k) ≡ at rs (suc k))
    odd_step k l e = out_bottom k l ((sides k (omega arith)).1 e)

  -- forward: c and the places of a path above it from its top row to its bottom row
  module _ {E : List ℕ} {c : ℕ} {rs ds : List ℕ} (member : c ∈ E) (p : SimplePath L (above c E) (top L c) rs ds (bottom L c)) where
    start : top L c < L.t
    start = top_lt L ok c

    odd_length : length ds % 2 ≡ 1
    odd_length =
        by_cases (ℕ_discrete (length ds % 2) 1) (λ e. e)
        (λ n. absurd (omega (arith, (sides p start (length ds) (omega arith)).0 (omega arith), path_last p, bottom_ge L ok c)))

    top_even : (k : ℕ) → k ≤ length ds → k % 2 ≡ 0 → top L (at (c ∷ ds) k) ≡ at rs k
    top_even zero l e = sym (path_first p)
    top_even (suc k) l e = (odd_step p start k l (omega arith)).1

    row_once : (i j : ℕ) → i ≤ length ds → j ≤ length ds → at rs i ≡ at rs j → i ≡ j
    row_once i j hi hj e = distinct_get_or (path_once p) (omega (arith, path_long p)) (omega (arith, path_long p)) e

    even≢odd : (i j : ℕ) → i < length ds → j < length ds → i % 2 ≡ 0 → j % 2 ≡ 1 → at ds i ≢ at ds j
    even≢odd i j hi hj a b e =
        let x = even_step p start i hi a in
        let y = odd_step p start j hj b in
        omega (
          arith,
          row_once i (suc j) (omega arith) hj (sym x.0 ∙ ap (top L) e ∙ y.1),
          row_once (suc i) j hi (omega arith) (sym x.1 ∙ ap (bottom L) e ∙ y.0),
        )

    place_once : (i j : ℕ) → i < length ds → j < length ds → at ds i ≡ at ds j → i ≡ j
    place_once i j hi hj e =
        by_cases (ℕ_discrete (i % 2) 0)
        (λ a. by_cases (ℕ_discrete (j % 2) 0)
        (λ b. row_once i j (omega arith) (omega arith)
        (sym (even_step p start i hi a).0 ∙ ap (top L) e ∙ (even_step p start j hj b).0))
        (λ b. absurd (even≢odd i j hi hj a (omega arith) e)))
        (λ a. by_cases (ℕ_discrete (j % 2) 0)
        (λ b. absurd (even≢odd j i hj hi b (omega arith) (sym e)))
        (λ b. row_once i j (omega arith) (omega arith)
        (sym (odd_step p start i hi (omega arith)).0 ∙ ap (bottom L) e ∙ (odd_step p start j hj (omega arith)).0)))

    further : (k : ℕ) → k < length ds → (at ds k ∈ E) × (c < at ds k)
    further k h = above_∈ c E (path_inside p k h)

    inside_all : (i : ℕ) → i < suc (length ds) → at (c ∷ ds) i ∈ E
    inside_all zero h = member
    inside_all (suc k) h = (further k (omega arith)).0

    lowest_first : (i : ℕ) → i < suc (length ds) → c ≤ at (c ∷ ds) i
    lowest_first zero h = omega arith
    lowest_first (suc k) h = omega (arith, (further k (omega arith)).1)

    all_once : (i j : ℕ) → i < suc (length ds) → j < suc (length ds) → at (c ∷ ds) i ≡ at (c ∷ ds) j → i ≡ j
    all_once zero zero h g e = refl
    all_once zero (suc j) h g e = absurd (omega (arith, (further j (omega arith)).1))
    all_once (suc i) zero h g e = absurd (omega (arith, (further i (omega arith)).1))
    all_once (suc i) (suc j) h g e = ap suc (place_once i j (omega arith) (omega arith) e)

    to_cycle : Cycle L E (c ∷ ds)
    to_cycle =
        let o = odd_length in
        record {
          half = length ds / 2 + 1;
          even = omega arith;
          least = omega arith;
          inside = inside_all;
          distinct = all_once;
          share_top = λ i h. top_even (2 * i) (omega arith) (omega arith)
              ∙ rw (add-one (2 * i)) (sym (even_step p start (2 * i) (omega arith) (omega arith)).0);
          share_bottom = λ i h. rw (add-one (2 * i), add-two (2 * i))
              ((even_step p start (2 * i) (omega arith) (omega arith)).1 ∙ sym (odd_step p start (suc (2 * i)) (omega arith) (omega arith)).0);
          close =
              let e : suc (length ds) - 1 ≡ suc (2 * (length ds / 2)) = omega arith in
              let f : suc (2 * (length ds / 2)) ≡ length ds = omega arith in
              rw e ((even_step p start (2 * (length ds / 2)) (omega arith) (omega arith)).1 ∙ ap (at rs) f ∙ path_last p);
          tops_once = λ i j h g e.
              let k : 2 * i ≡ 2 * j = row_once (2 * i) (2 * j) (omega arith) (omega arith)
              (sym (top_even (2 * i) (omega arith) (omega arith)) ∙ e ∙ top_even (2 * j) (omega arith) (omega arith)) in
              omega arith;
          bottoms_once = λ i j h g e.
              let q : bottom L (at ds (2 * i)) ≡ bottom L (at ds (2 * j)) = rw (add-one (2 * i), add-one (2 * j)) at e in
              let k : suc (2 * i) ≡ suc (2 * j) = row_once (suc (2 * i)) (suc (2 * j)) (omega arith) (omega arith)
              (sym (even_step p start (2 * i) (omega arith) (omega arith)).1 ∙ q ∙ (even_step p start (2 * j) (omega arith) (omega arith)).1) in
              omega arith;
          lowest = lowest_first;
        }

  -- backward: the places after the first are above it, and lead from its top row to its bottom row
  module _ {E l : List ℕ} (cy : Cycle L E l) where
    pub after_first : (i : ℕ) → 0 < i → i < length l → at l i ∈ above (at l 0) E
    after_first i pos h =
        let n : at l 0 ≢ at l i = λ e. let k : 0 ≡ i = cy.distinct 0 i (omega arith) h e in omega arith in
        ∈_above (cy.inside i h) (omega (arith, cy.lowest i h))

    walk : (k : ℕ) → k < cy.half → Connected L (above (at l 0) E) (top L (at l 0)) (bottom L (at l (2 * k + 1)))
    walk zero h = along (at l 1) here (after_first 1 (omega arith) (omega (arith, cy.even))) (inl (cy.share_top 0 h)) (inr refl)
    walk (suc k) h =
        let e : 2 * suc k ≡ 2 * k + 2 = omega arith in
        along (at l (2 * suc k + 1))
        (along (at l (2 * k + 2)) (walk k (omega arith)) (after_first (2 * k + 2) (omega arith) (omega (arith, cy.even)))
        (inr (cy.share_bottom k (omega arith))) (inl refl))
        (after_first (2 * suc k + 1) (omega arith) (omega (arith, cy.even)))
        (inl (ap (λ x. top L (at l x)) (sym e) ∙ cy.share_top (suc k) h)) (inr refl)

    pub cycle_connected : Connected L (above (at l 0) E) (top L (at l 0)) (bottom L (at l 0))
    cycle_connected =
        let e : 2 * (cy.half - 1) + 1 ≡ length l - 1 = omega (arith, cy.even, cy.least) in
        subst (λ x. Connected L (above (at l 0) E) (top L (at l 0)) x) (ap (λ x. bottom L (at l x)) e ∙ cy.close)
        (walk (cy.half - 1) (omega (arith, cy.least)))

  pub path : (E : List ℕ) (c : ℕ) → Erased L E → c ∈ E → Connected L (above c E) (top L c) (bottom L c) ↔ Lowest L E c
  path E c er m = (
    λ q. let k = linked q in record { cycle = c ∷ k.by; is_cycle = to_cycle m k.is_path; first = refl },
    λ w. subst (λ x. Connected L (above x E) (top L x) (bottom L x)) w.first (cycle_connected w.is_cycle),
  )
