-- T4 and T6 about cycles, and their length. A row of a cycle has exactly two of its places (`Mates`), so 1 along the cycle is a word whose rows sum to 0.
-- Main results: cycle_indicator, two, cycle_length, forest_no_cycle, closing, forest_or_cycle.
use Rattle.std.specs.Prelude.{◌≡◌, refl, ◌≢◌, ◌⊎◌, List, [], ◌∷◌, ℕ, suc, ◌+◌, ◌-◌, ◌*◌, ◌/◌, ◌%◌, ◌^◌, ◌≤◌, ◌<◌, length}
use Rattle.std.proofs.Common.{sym, ◌∙◌, ap, ap₂, subst, inl, inr, ⊎_elim, mod-eq_of_lt, arith}
use Rattle.std.proofs.Math.Logic.{by_cases}
use mathlib.Core.List.Memᴰ
use mathlib.Core.List.Memᴰ.{head as first}
use mathlib.Core.List.Memᴰ.{tail as later}
use Rattle.std.proofs.Math.Decide.{ℕ_discrete, dec_lt}
use Rattle.math.specs.Members.{◌∈◌, is_in, up_to, Rising, rising_none, rising_more}
use Rattle.math.specs.MembersLaws.{by_test, by_place, ∈_is_in, ∉_is_in, ∈_up_to, up_to_∈, length_up_to, rising_tail}
use Rattle.math.specs.Pigeonhole.{get_or_∈, ∈_get_or, injection_length, find_in}
use Rattle.math.specs.Xor.{◌⊕◌, ⊕_zero, ⊕_self, ⊕_self_left, ⊕_lt}
use Rattle.math.specs.Sums.{only}
use Rattle.math.specs.SumsLaws.{only_true, only_false, only_zero, xor_over_zero, xor_over_two}
use Rattle.plan.specs.Layout.{Layout, Valid, top, bottom}
use Rattle.code.specs.Places.{places, Meets, meets}
use Rattle.code.specs.Codewords.{at, syndrome, Agrees, TwoOrMore}
use Rattle.code.specs.Cycles.{Cycle, Lowest}
use Rattle.code.specs.Components.{Connected}
use Rattle.code.specs.Laws.Forest.{Erased, Forest, forest_none, forest_more, above}
use Rattle.code.proofs.Laws.Basics.{places_∈, distinct_places, top_lt, top≢bottom, meets_true, true_meets, syndrome_add, word, word_at, word_codeword}
use Rattle.code.proofs.Laws.Paths.{above_head, above_tail, erased_tail, cycle_connected, path}

-- a cycle of some erasures is a cycle of more
pub cycle_mono : {L : Layout} {E F l : List ℕ} → ((c : ℕ) → c ∈ E → c ∈ F) → Cycle L E l → Cycle L F l
cycle_mono {l} h cy =
    record {
      half = cy.half;
      even = cy.even;
      least = cy.least;
      inside = λ i m. h (at l i) (cy.inside i m);
      distinct = cy.distinct;
      share_top = cy.share_top;
      share_bottom = cy.share_bottom;
      close = cy.close;
      tops_once = cy.tops_once;
      bottoms_once = cy.bottoms_once;
      lowest = cy.lowest;
    }

pub lowest_mono : {L : Layout} {E F : List ℕ} {c : ℕ} → ((d : ℕ) → d ∈ E → d ∈ F) → Lowest L E c → Lowest L F c
lowest_mono h w = record { cycle = w.cycle; is_cycle = cycle_mono h w.is_cycle; first = w.first }

-- places i and j of the list lie on one row of a kind (top or bottom), and no other place of the list does
pub record Mates (row : ℕ → ℕ) (l : List ℕ) (i j : ℕ) : Type 0 where
  pub left : i < length l
  pub right : j < length l
  pub differ : i ≢ j
  pub same : row (at l i) ≡ row (at l j)
  pub just : (k : ℕ) → k < length l → row (at l k) ≡ row (at l i) → (k ≡ i) ⊎ (k ≡ j)

module _ {L : Layout} {E l : List ℕ} (cy : Cycle L E l) where
  -- the top row of place k is the one of number k / 2
  top_number : (k : ℕ) → k < length l → top L (at l k) ≡ top L (at l (2 * (k / 2)))
  top_number k h =
      by_cases (ℕ_discrete (k % 2) 0)
      (λ e. let f : k ≡ 2 * (k / 2) = omega arith in ap (λ x. top L (at l x)) f)
      (λ n. let f : k ≡ 2 * (k / 2) + 1 = omega arith in ap (λ x. top L (at l x)) f ∙ sym (cy.share_top (k / 2) (omega (arith, cy.even))))

  pub top_mates : (q : ℕ) → q < cy.half → Mates (top L) l (2 * q) (2 * q + 1)
  top_mates q h =
      record {
        left = omega (arith, cy.even);
        right = omega (arith, cy.even);
        differ = omega arith;
        same = cy.share_top q h;
        just = λ k m e.
            let f : k / 2 ≡ q = cy.tops_once (k / 2) q (omega (arith, cy.even)) h (sym (top_number k m) ∙ e) in
            by_cases (ℕ_discrete (k % 2) 0) (λ z. inl (omega arith)) (λ z. inr (omega arith));
      }

  -- bottom row number q has the places 2q + 1 and the one after it
  record Below (k q : ℕ) : Type 0 where
    low : q < cy.half
    on : bottom L (at l k) ≡ bottom L (at l (2 * q + 1))
    which : (k ≡ 2 * q + 1) ⊎ ((k ≡ 2 * q + 2) ⊎ ((k ≡ 0) × (q + 1 ≡ cy.half)))

  final : 2 * (cy.half - 1) + 1 ≡ length l - 1
  final = omega (arith, cy.even, cy.least)

  bottom_number : (k : ℕ) → k < length l → (q : ℕ) × Below k q
  bottom_number k h =
      by_cases (ℕ_discrete (k % 2) 1)
      (λ e. let f : k ≡ 2 * (k / 2) + 1 = omega arith in
      (k / 2, record { low = omega (arith, cy.even); on = ap (λ x. bottom L (at l x)) f; which = inl f }))
      (λ n. by_cases (ℕ_discrete k 0)
      (λ e. (
        cy.half - 1,
        record {
          low = omega (arith, cy.least);
          on = ap (λ x. bottom L (at l x)) e ∙ sym (ap (λ x. bottom L (at l x)) final ∙ cy.close);
          which = inr (inr (e, omega (arith, cy.least)));
        },
      ))
      (λ z. let f : k ≡ 2 * (k / 2 - 1) + 2 = omega arith in (
        k / 2 - 1,
        record {
          low = omega (arith, cy.even);
          on = ap (λ x. bottom L (at l x)) f ∙ sym (cy.share_bottom (k / 2 - 1) (omega (arith, cy.even)));
          which = inr (inl f);
        },
      )))

  pub bottom_mates : (q : ℕ) → q + 1 < cy.half → Mates (bottom L) l (2 * q + 1) (2 * q + 2)
  bottom_mates q h =
      record {
        left = omega (arith, cy.even);
        right = omega (arith, cy.even);
        differ = omega arith;
        same = cy.share_bottom q h;
        just = λ k m e.
            let b = bottom_number k m in
            let f : b.0 ≡ q = cy.bottoms_once b.0 q b.1.low (omega arith) (sym b.1.on ∙ e) in
            ⊎_elim (λ u. inl (omega arith)) (⊎_elim (λ u. inr (omega arith)) (λ u. absurd (omega arith))) b.1.which;
      }

  pub last_mates : Mates (bottom L) l (length l - 1) 0
  last_mates =
      record {
        left = omega (arith, cy.even, cy.least);
        right = omega (arith, cy.even, cy.least);
        differ = omega (arith, cy.even, cy.least);
        same = cy.close;
        just = λ k m e.
            let b = bottom_number k m in
            let f : b.0 ≡ cy.half - 1 =
            cy.bottoms_once b.0 (cy.half - 1) b.1.low (omega (arith, cy.least))
            (sym b.1.on ∙ e ∙ ap (λ x. bottom L (at l x)) (sym final)) in
            ⊎_elim (λ u. inl (omega (arith, final))) (⊎_elim (λ u. absurd (omega (arith, cy.even))) (λ u. inr u.0)) b.1.which;
      }

  -- every place has a mate on its top row and one on its bottom row
  pub top_mated : (i : ℕ) → i < length l → (a : ℕ) × (b : ℕ) × Mates (top L) l a b × (top L (at l i) ≡ top L (at l a))
  top_mated i h = (2 * (i / 2), 2 * (i / 2) + 1, top_mates (i / 2) (omega (arith, cy.even)), top_number i h)

  pub bottom_mated : (i : ℕ) → i < length l → (a : ℕ) × (b : ℕ) × Mates (bottom L) l a b × (bottom L (at l i) ≡ bottom L (at l a))
  bottom_mated i h =
      let b = bottom_number i h in
      by_cases (dec_lt (b.0 + 1) cy.half)
      (λ m. (2 * b.0 + 1, 2 * b.0 + 2, bottom_mates b.0 m, b.1.on))
      (λ n. let e : 2 * b.0 + 1 ≡ length l - 1 = omega (arith, b.1.low, cy.even) in
      (length l - 1, 0, last_mates, b.1.on ∙ ap (λ x. bottom L (at l x)) e))

  -- place i and the next are mates on a top row or on a bottom row, as i is even or odd
  pub next_top : (i : ℕ) → suc i < length l → i % 2 ≡ 0 → Mates (top L) l i (suc i)
  next_top i h e =
      let f : 2 * (i / 2) ≡ i = omega arith in
      let g : i + 1 ≡ suc i = omega arith in
      subst (λ x. Mates (top L) l i x) g (subst (λ x. Mates (top L) l x (x + 1)) f (top_mates (i / 2) (omega (arith, cy.even))))

  pub next_bottom : (i : ℕ) → suc i < length l → i % 2 ≡ 1 → Mates (bottom L) l i (suc i)
  next_bottom i h e =
      let f : 2 * (i / 2) + 1 ≡ i = omega arith in
      let g : 2 * (i / 2) + 2 ≡ suc i = omega arith in
      subst (λ x. Mates (bottom L) l i x) g
      (subst (λ x. Mates (bottom L) l x (2 * (i / 2) + 2)) f (bottom_mates (i / 2) (omega (arith, cy.even))))

-- 1 at the places of the list, 0 elsewhere
abbrev pub indicator : List ℕ → ℕ → ℕ
indicator l c = only (is_in c l) 1

pub indicator_in : {c : ℕ} {l : List ℕ} → c ∈ l → indicator l c ≡ 1
indicator_in m = only_true 1 (∈_is_in m)

pub indicator_out : {c : ℕ} {l : List ℕ} → ¬ (c ∈ l) → indicator l c ≡ 0
indicator_out n = only_false 1 (∉_is_in n)

flip_differs : {a : ℕ} → a < 256 → a ≢ (a ⊕ 1) % 256
flip_differs {a} h e =
    let one : 1 < 2 ^ 8 = omega arith in
    let z : ◌≡◌ {A = ℕ} 0 1 = sym (⊕_self a) ∙ ap (λ x. a ⊕ x) (e ∙ mod-eq_of_lt (⊕_lt 8 h one)) ∙ ⊕_self_left a 1 in
    omega arith

-- a list with two places on a row has the row sum 0
mates_sum : (L : Layout) (row : ℕ → ℕ) (r : ℕ) {l : List ℕ} {a b : ℕ} → ((c : ℕ) → Meets L c (row c)) → ((c : ℕ) → Meets L c r → row c ≡ r) →
    ((c : ℕ) → c ∈ l → c ∈ places L) → at l a ≢ at l b → Mates row l a b → r ≡ row (at l a) → syndrome L (indicator l) r ≡ 0
unfolding syndrome
mates_sum L row r {l} {a} {b} on only-on inside differ ms e =
    xor_over_two f (distinct_places L) (inside (at l a) (get_or_∈ l ms.left)) (inside (at l b) (get_or_∈ l ms.right)) differ others
    ∙ ap₂ ◌⊕◌ (one a ms.left (sym e)) (one b ms.right (sym ms.same ∙ sym e)) ∙ ⊕_self 1
  where
    f : ℕ → ℕ
    f c = only (meets L c r) (indicator l c)

    one : (i : ℕ) → i < length l → row (at l i) ≡ r → f (at l i) ≡ 1
    one i h q =
        only_true (indicator l (at l i)) (meets_true L (at l i) (subst (λ x. Meets L (at l i) x) q (on (at l i)))) ∙ indicator_in (get_or_∈ l h)

    others : (c : ℕ) → c ∈ places L → c ≢ at l a → c ≢ at l b → f c ≡ 0
    others c m na nb =
        by_test (meets L c r)
        (λ t. let n : ¬ (c ∈ l) = λ i.
        let k = ∈_get_or i in
        ⊎_elim (λ (u : k.0 ≡ a). na (sym k.2 ∙ ap (at l) u)) (λ (u : k.0 ≡ b). nb (sym k.2 ∙ ap (at l) u))
        (ms.just k.0 k.1 (ap row k.2 ∙ only-on c (true_meets L c r t) ∙ e)) in
        ap (only (meets L c r)) (indicator_out n) ∙ only_zero (meets L c r))
        (λ t. only_false (indicator l c) t)

-- a row that no place of the list meets has the sum 0
off_sum : (L : Layout) (r : ℕ) {l : List ℕ} → ((c : ℕ) → c ∈ l → ¬ (Meets L c r)) → syndrome L (indicator l) r ≡ 0
unfolding syndrome
off_sum L r {l} off =
    xor_over_zero (places L) (λ c. only (meets L c r) (indicator l c)) (λ c m. by_test (meets L c r)
    (λ t. ap (only (meets L c r)) (indicator_out {l = l} (λ i. off c i (true_meets L c r t))) ∙ only_zero (meets L c r))
    (λ t. only_false (indicator l c) t))

module _ (L : Layout) (ok : Valid L) where
  module _ {E l : List ℕ} (cy : Cycle L E l) (er : Erased L E) where
    pub cycle_inside : (c : ℕ) → c ∈ l → c ∈ places L
    cycle_inside c m = let k = ∈_get_or m in er.inside c (Memᴰ.cast (sym k.2) (cy.inside k.0 k.1))

    apart : {row : ℕ → ℕ} {a b : ℕ} → Mates row l a b → at l a ≢ at l b
    apart {a} {b} ms e = ms.differ (cy.distinct a b ms.left ms.right e)

    top_only : (r i : ℕ) → r ≡ top L (at l i) → (c : ℕ) → Meets L c r → top L c ≡ r
    top_only r i e c (inl f) = sym f
    top_only r i e c (inr f) = absurd (top≢bottom L ok (at l i) c (sym e ∙ f))

    bottom_only : (r i : ℕ) → r ≡ bottom L (at l i) → (c : ℕ) → Meets L c r → bottom L c ≡ r
    bottom_only r i e c (inr f) = sym f
    bottom_only r i e c (inl f) = absurd (top≢bottom L ok c (at l i) (sym f ∙ e))

    pub cycle_indicator : (r : ℕ) → syndrome L (indicator l) r ≡ 0
    cycle_indicator r = ⊎_elim on_top (λ a. ⊎_elim on_bottom (λ b. nowhere a b) (find_in (λ i. ℕ_discrete r (bottom L (at l i))) (up_to (length l))))
        (find_in (λ i. ℕ_discrete r (top L (at l i))) (up_to (length l)))
      where
        on_top : (i : ℕ) × (i ∈ up_to (length l)) × (r ≡ top L (at l i)) → syndrome L (indicator l) r ≡ 0
        on_top w = let m = top_mated cy w.0 (up_to_∈ (length l) w.1) in
            mates_sum L (top L) r (λ c. inl refl) (top_only r w.0 w.2) cycle_inside (apart m.2) m.2 (w.2 ∙ m.3)

        on_bottom : (i : ℕ) × (i ∈ up_to (length l)) × (r ≡ bottom L (at l i)) → syndrome L (indicator l) r ≡ 0
        on_bottom w = let m = bottom_mated cy w.0 (up_to_∈ (length l) w.1) in
            mates_sum L (bottom L) r (λ c. inr refl) (bottom_only r w.0 w.2) cycle_inside (apart m.2) m.2 (w.2 ∙ m.3)

        nowhere : ((i : ℕ) → i ∈ up_to (length l) → r ≢ top L (at l i)) → ((i : ℕ) → i ∈ up_to (length l) → r ≢ bottom L (at l i))
            → syndrome L (indicator l) r ≡ 0
        nowhere a b = off_sum L r (λ c m. let k = ∈_get_or m in
            let i = ∈_up_to k.1 in
            ⊎_elim (λ e. a k.0 i (e ∙ ap (top L) (sym k.2))) (λ e. b k.0 i (e ∙ ap (bottom L) (sym k.2))))

  -- T4
  pub two : (E v w l : List ℕ) → Erased L E → Cycle L E l → Agrees L E v w → TwoOrMore (Agrees L E v)
  two E v w l er cy ag =
      record {
        one = w;
        other = word L x;
        has = ag;
        other_has = record {
          codeword = word_codeword L x
              (λ r h. syndrome_add L (at w) (indicator l) r ∙ ap₂ ◌⊕◌ (ag.codeword.sums r h) (cycle_indicator cy er r) ∙ ⊕_zero 0);
          unmarked = λ c h n. word_at L x h
              ∙ rw (indicator_out {l = l} (λ m. let k = ∈_get_or m in n (Memᴰ.cast (sym k.2) (cy.inside k.0 k.1))), ⊕_zero (at w c))
              (mod-eq_of_lt (ag.codeword.symbols c))
              ∙ ag.unmarked c h n;
        };
        differ = λ e.
            let m : at l 0 ∈ l = get_or_∈ l (omega (arith, cy.even, cy.least)) in
            flip_differs (ag.codeword.symbols (at l 0))
            (ap (λ y. at y (at l 0)) e ∙ word_at L x (places_∈ L (cycle_inside cy er (at l 0) m)).0
            ∙ ap (λ y. (at w (at l 0) ⊕ y) % 256) (indicator_in m));
      }
    where
      x : ℕ → ℕ
      x c = at w c ⊕ indicator l c

  -- "So z is at most 2t."
  pub cycle_length : (E l : List ℕ) → Cycle L E l → length l ≤ 2 * L.t
  cycle_length E l cy =
      let h : cy.half ≤ length (up_to L.t) =
      injection_length cy.half (λ i. top L (at l (2 * i))) (up_to L.t) (λ i m. ∈_up_to (top_lt L ok (at l (2 * i)))) cy.tops_once in
      omega (arith, cy.even, length_up_to L.t)

  -- T6
  pub forest_at : {E : List ℕ} {c : ℕ} → Rising E → Forest L E → c ∈ E → ¬ (Connected L (above c E) (top L c) (bottom L c))
  forest_at r forest_none m q = Memᴰ.not-nil m
  forest_at {c} r (forest_more {c = d} {cs = cs} n f) m q =
      by_place m
      (λ e. n (subst (λ y. Connected L y (top L d) (bottom L d)) (above_head r) (subst (λ y. Connected L (above y (d ∷ cs)) (top L y) (bottom L y)) e q)))
      (λ k. forest_at (rising_tail r) f k (subst (λ y. Connected L y (top L c) (bottom L c)) (above_tail r k) q))

  -- the converse of forest_at
  pub forest_by_place : {E : List ℕ} → Rising E → ((c : ℕ) → c ∈ E → ¬ (Connected L (above c E) (top L c) (bottom L c))) → Forest L E
  forest_by_place rising_none h = forest_none
  forest_by_place (rising_more {c = d} {cs = cs} g r) h =
      let s : Rising (d ∷ cs) = rising_more g r in
      forest_more (λ q. h d (first refl) (rw (above_head s) q)) (forest_by_place r (λ c m q. h c (later m) (rw (above_tail s m) q)))

  pub forest_above : {E : List ℕ} {c : ℕ} → Rising E → Forest L E → c ∈ E → Forest L (above c E)
  forest_above r forest_none m = absurd (Memᴰ.not-nil m)
  forest_above {c} r (forest_more {c = d} {cs = cs} n f) m =
      by_place m
      (λ e. subst (λ y. Forest L (above y (d ∷ cs))) (sym e) (rw (above_head r) f))
      (λ k. rw (above_tail r k) (forest_above (rising_tail r) f k))

  pub forest_no_cycle : (E : List ℕ) → Erased L E → Forest L E → (l : List ℕ) → ¬ (Cycle L E l)
  forest_no_cycle E er f l cy =
      forest_at er.rising f (cy.inside 0 (omega (arith, cy.even, cy.least))) (cycle_connected L ok cy)

  module _ (dec : (F : List ℕ) (r s : ℕ) → Dec (Connected L F r s)) where
    -- a forest, or the highest place that closes a cycle with the erasures above it
    pub closing : (E : List ℕ) → Erased L E → Forest L E ⊎ ((c : ℕ) × (c ∈ E) × Forest L (above c E) × Lowest L E c)
    closing [] er = inl forest_none
    closing (x ∷ E) er = ⊎_elim
        (λ f. by_cases (dec E (top L x) (bottom L x))
        (λ q. let e : above x (x ∷ E) ≡ E = above_head er.rising in
        inr (x, first refl, rw e f, (path L ok (x ∷ E) x er (first refl)).0 (rw e q)))
        (λ n. inl (forest_more n f)))
        (λ w. let e : above w.0 (x ∷ E) ≡ above w.0 E = above_tail er.rising w.1 in
        inr (w.0, later w.1, rw e w.2, lowest_mono (λ d m. later m) w.3))
        (closing E (erased_tail er))

    pub forest_or_cycle : (E : List ℕ) → Erased L E → Forest L E ⊎ ((l : List ℕ) × Cycle L E l)
    forest_or_cycle E er = ⊎_elim inl (λ w. inr (w.3.cycle, w.3.is_cycle)) (closing E er)
