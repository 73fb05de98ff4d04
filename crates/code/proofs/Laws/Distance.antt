-- T11: the least weight of a nonzero codeword. From below by the cycle that its places hold, from above by blocks of ones at 2, 4 or 6 places.
-- Main results: weight_cycle, list_weight, distance_equal, distance_ruler, distance_other, distance_pair.
use Rattle.std.specs.Prelude.{◌≡◌, refl, ◌≢◌, ◌↔◌, not, List, [], ◌∷◌, ℕ, ◌+◌, ◌-◌, ◌*◌, ◌/◌, ◌%◌, ◌≤◌, ◌<◌, eqb, length}
use Rattle.std.proofs.Math.Path.{sym, ap}
use Rattle.std.proofs.Common.{◌∙◌, subst, inl, inr, mod-lt, add_comm, le_of_lt, arith, eq-eqb, ne_eqb}
use Rattle.std.proofs.Math.Logic.{by_cases}
use mathlib.Core.Logic.Dec
use mathlib.Core.List.Memᴰ
use mathlib.Core.List.Memᴰ.{head as here}
use mathlib.Core.List.Memᴰ.{tail as there}
use Rattle.std.proofs.Math.Nat.{mod-add-mod, add-mod_right}
use Rattle.std.proofs.Math.Decide.{ℕ_discrete}
use Rattle.std.proofs.lemmas.Bool.{eqb-false, not-true}
use Rattle.math.specs.Members.{◌∈◌, keep, Distinct, distinct_none, distinct_more}
use Rattle.math.specs.MembersLaws.{by_place, dec_in, ∈_keep, keep_∈, rising_keep, rising_distinct, rising_head}
use Rattle.math.specs.Pigeonhole.{get_or_∈, ∈_get_or, rising_get_or, distinct_length, injection_length, find_in}
use Rattle.math.specs.Xor.{◌⊕◌, xor}
use Rattle.math.specs.Sums.{xor_over, only}
use Rattle.math.specs.SumsLaws.{only_true, only_false, only_zero, xor_over_ext, xor_over_zero, xor_over_swap, xor_over_only, xor_over_one, xor_over_at'}
use Rattle.math.proofs.Residues.{add_congr, mod_cancel_right, mod_cancel_left, residue_unique}
use Rattle.plan.specs.Layout.{Layout, Valid, place_of, bottom_row, top, bottom}
use Rattle.code.specs.Places.{places, Meets, meets}
use Rattle.code.specs.Codewords.{at, syndrome}
use Rattle.code.specs.Cycles.{Cycle}
use Rattle.code.specs.Figures.{Pair, pair_number, weight, Least, NonzeroWeight, EqualShifts, Ruler}
use Rattle.code.specs.Laws.Forest.{Erased}
use Rattle.code.proofs.Laws.Basics.{places_∈, rising_places, distinct_places, section_of, offset_of, place_∈, top_of, bottom_of, only_meets, word, word_codeword}
use Rattle.code.proofs.Laws.Pairs.{indicator_at, top_offset_lem, bottom_residue, meets_unique, nonzero_many, pair_comb}
use Rattle.code.proofs.Laws.Labels.{dec_connected}
use Rattle.code.proofs.Laws.Unique.{forest_zero}
use Rattle.code.proofs.Laws.CycleLaws.{indicator, indicator_in, indicator_out, forest_or_cycle}

-- k - p and k' - q agree exactly if k + q and k' + p do
pub same_difference : (t p q k k' : ℕ) → p ≤ t → q ≤ t → ((k + t - p) % t ≡ (k' + t - q) % t) ↔ ((k + q) % t ≡ (k' + p) % t)
same_difference t p q k k' h g = (on, back)
  where
    left : k + t - p + (p + q) ≡ k + q + t
    left = omega arith

    right : k' + t - q + (p + q) ≡ k' + p + t
    right = omega arith

    on : (k + t - p) % t ≡ (k' + t - q) % t → (k + q) % t ≡ (k' + p) % t
    on e =
        let s : (k + q + t) % t ≡ (k' + p + t) % t = rw (left, right) at (add_congr t (k + t - p) (k' + t - q) (p + q) (p + q) e refl) in
        rw (add-mod_right (k + q) t, add-mod_right (k' + p) t) at s

    back : (k + q) % t ≡ (k' + p) % t → (k + t - p) % t ≡ (k' + t - q) % t
    back e =
        mod_cancel_right t (k + t - p) (k' + t - q) (p + q)
        (rw (left, right, add-mod_right (k + q) t, add-mod_right (k' + p) t) e)

-- members of a ring, neighbours agreeing by turns in f and in g, add up to 0
ring_two : (q f g : ℕ → ℕ) (a b : ℕ) → f a ≡ f b → g b ≡ g a → xor_over (a ∷ b ∷ []) (λ x. q (f x) ⊕ q (g x)) ≡ 0
unfolding xor_over
ring_two q f g a b ab ba = rw (ab, ba) (simp xor)

ring_four : (q f g : ℕ → ℕ) (a b c d : ℕ) → f a ≡ f b → g b ≡ g c → f c ≡ f d → g d ≡ g a
    → xor_over (a ∷ b ∷ c ∷ d ∷ []) (λ x. q (f x) ⊕ q (g x)) ≡ 0
unfolding xor_over
ring_four q f g a b c d ab bc cd da = rw (ab, bc, cd, da) (simp xor)

ring_six : (q f g : ℕ → ℕ) (a b c d e h : ℕ) → f a ≡ f b → g b ≡ g c → f c ≡ f d → g d ≡ g e → f e ≡ f h → g h ≡ g a
    → xor_over (a ∷ b ∷ c ∷ d ∷ e ∷ h ∷ []) (λ x. q (f x) ⊕ q (g x)) ≡ 0
unfolding xor_over
ring_six q f g a b c d e h ab bc cd de eh ha = rw (ab, bc, cd, de, eh, ha) (simp xor)

apart : {c x : ℕ} {l : List ℕ} → c ≢ x → ¬ (c ∈ l) → ¬ (c ∈ (x ∷ l))
apart n k m = by_place m n k

alone : {c : ℕ} → ¬ (c ∈ [])
alone m = Memᴰ.not-nil m

-- a list inside another
inside_none : {m : List ℕ} (c : ℕ) → c ∈ [] → c ∈ m
inside_none c k = absurd (alone k)

inside_more : {m l : List ℕ} {x : ℕ} → x ∈ m → ((c : ℕ) → c ∈ l → c ∈ m) → (c : ℕ) → c ∈ (x ∷ l) → c ∈ m
inside_more h rest c k = by_place k (λ e. Memᴰ.cast e h) (rest c)

dec_some : (P : ℕ → Type 0) → ((c : ℕ) → Dec (P c)) → (l : List ℕ) → Dec ((c : ℕ) × (c ∈ l) × P c)
dec_some P dec l = elim (find_in {P = P} dec l) [
  | inl s ↦ yes s
  | inr n ↦ no (λ s. n s.0 s.1 s.2)
]

-- the nonzero places of a block, rising
unfoldable pub support : Layout → List ℕ → List ℕ
support L w = keep (λ c. not (eqb (at w c) 0)) (places L)

pub weight_support : (L : Layout) (w : List ℕ) → weight L w ≡ length (support L w)
unfolding weight support
weight_support L w = refl

pub support_∈ : (L : Layout) (w : List ℕ) {c : ℕ} → c ∈ support L w → (c ∈ places L) × (at w c ≢ 0)
unfolding support
support_∈ L w {c} m = let k = keep_∈ (λ d. not (eqb (at w d) 0)) (places L) m in (k.0, eqb-false (at w c) 0 (not-true (eqb (at w c) 0) k.1))

pub ∈_support : (L : Layout) (w : List ℕ) {c : ℕ} → c ∈ places L → at w c ≢ 0 → c ∈ support L w
unfolding support
∈_support L w {c} m n = ∈_keep (λ d. not (eqb (at w d) 0)) m (rw (ne_eqb (at w c) 0 n))

pub support_erased : (L : Layout) (w : List ℕ) → Erased L (support L w)
unfolding support
support_erased L w = record { rising = rising_keep (λ d. not (eqb (at w d) 0)) (rising_places L); inside = λ c m. (support_∈ L w m).0 }

-- a nonzero codeword has a nonzero place
pub support_some : (L : Layout) (y : ℕ) (w : NonzeroWeight L y) → at (support L w.word) 0 ∈ support L w.word
support_some L y w = get_or_∈ (support L w.word) (omega (arith, w.value, w.nonzero, weight_support L w.word))

module _ (L : Layout) (ok : Valid L) where
  -- the block of ones at distinct places is as heavy as they are many
  pub indicator_weight : (E : List ℕ) → Distinct E → ((c : ℕ) → c ∈ E → c ∈ places L) → (a : ℕ) → a ∈ E → ((r : ℕ) → r < 2 * L.t → syndrome L (indicator E) r ≡ 0)
      → NonzeroWeight L (length E)
  indicator_weight E d inside a m sums =
      record {
        word = word L (indicator E);
        codeword = word_codeword L (indicator E) sums;
        value = omega (
          arith,
          weight_support L (word L (indicator E)),
          distinct_length d into,
          distinct_length (rising_distinct (support_erased L (word L (indicator E))).rising) back,
        );
        nonzero = let k = ∈_get_or m in omega arith;
      }
    where
      into : (c : ℕ) → c ∈ E → c ∈ support L (word L (indicator E))
      into c k = let p = inside c k in ∈_support L (word L (indicator E)) p (λ z. omega (arith, z, indicator_at L ok E (places_∈ L p).0, indicator_in k))

      back : (c : ℕ) → c ∈ support L (word L (indicator E)) → c ∈ E
      back c k =
          let p = support_∈ L (word L (indicator E)) k in
          by_cases (dec_in c E) (λ y. y) (λ n. absurd (p.1 (indicator_at L ok E (places_∈ L p.0).0 ∙ indicator_out n)))

  indicator_sum : {l : List ℕ} → Distinct l → (c : ℕ) → indicator l c ≡ xor_over l (λ a. only (eqb c a) 1)
  indicator_sum {l} d c =
      by_cases (dec_in c l)
      (λ m. indicator_in m ∙ sym (xor_over_at' (λ a. 1) d m))
      (λ n. indicator_out n ∙ sym (xor_over_zero l (λ a. only (eqb c a) 1) (λ a m. only_false 1 (ne_eqb c a (λ e. n (Memᴰ.cast e m))))))

  -- the row sum of the block of ones at distinct places, place by place
  pub indicator_row : (l : List ℕ) → Distinct l → ((c : ℕ) → c ∈ l → c ∈ places L) → (r : ℕ)
      → syndrome L (indicator l) r ≡ xor_over l (λ a. only (eqb r (top L a)) 1 ⊕ only (eqb r (bottom L a)) 1)
  unfolding syndrome
  indicator_row l d inside r =
      xor_over_ext (places L) (λ c. only (meets L c r) (indicator l c)) (λ c. xor_over l (λ a. only (meets L c r) (only (eqb c a) 1)))
      (λ c m. ap (only (meets L c r)) (indicator_sum d c) ∙ sym (xor_over_only (meets L c r) l (λ a. only (eqb c a) 1)))
      ∙ xor_over_swap (places L) l (λ c a. only (meets L c r) (only (eqb c a) 1))
      ∙ xor_over_ext l (λ a. xor_over (places L) (λ c. only (meets L c r) (only (eqb c a) 1))) (λ a. only (eqb r (top L a)) 1 ⊕ only (eqb r (bottom L a)) 1)
      (λ a m. xor_over_one (λ c. only (meets L c r) (only (eqb c a) 1)) (distinct_places L) (inside a m)
      (λ c k ne. ap (only (meets L c r)) (only_false 1 (ne_eqb c a ne)) ∙ only_zero (meets L c r))
      ∙ ap (only (meets L a r)) (only_true 1 (eq-eqb a a refl)) ∙ only_meets L ok a r 1)

  pub list_weight : (l : List ℕ) → Distinct l → ((c : ℕ) → c ∈ l → c ∈ places L) → (a : ℕ) → a ∈ l
      → ((r : ℕ) → xor_over l (λ c. only (eqb r (top L c)) 1 ⊕ only (eqb r (bottom L c)) 1) ≡ 0) → NonzeroWeight L (length l)
  list_weight l d inside a m even = indicator_weight l d inside a m (λ r h. indicator_row l d inside r ∙ even r)

  -- the places of a nonzero codeword hold a cycle
  pub weight_cycle : (y : ℕ) → NonzeroWeight L y → (E : List ℕ) × (l : List ℕ) × Erased L E × Cycle L E l × (length l ≤ y)
  weight_cycle y w =
      elim (forest_or_cycle L ok (dec_connected L) S er) [
        | inl f ↦ absurd (first.1 (forest_zero L ok er.inside f (at w.word) elsewhere w.codeword.sums (at S 0) first.0))
        | inr k ↦ (
          S,
          k.0,
          er,
          k.1,
          omega (arith, w.value, weight_support L w.word, injection_length (length k.0) (at k.0) S k.1.inside k.1.distinct),
        )
      ]
    where
      S : List ℕ
      S = support L w.word

      er : Erased L S
      er = support_erased L w.word

      first : (at S 0 ∈ places L) × (at w.word (at S 0) ≢ 0)
      first = support_∈ L w.word (support_some L y w)

      elsewhere : (c : ℕ) → c ∈ places L → ¬ (c ∈ S) → at w.word c ≡ 0
      elsewhere c m n = by_cases (ℕ_discrete (at w.word c) 0) (λ e. e) (λ ne. absurd (n (∈_support L w.word m ne)))

  -- different places on one row lie in different sections
  pub row_pair_sections : {a b : ℕ} (r : ℕ) → (a / L.t) ∈ L.sections → (b / L.t) ∈ L.sections → a ≢ b → Meets L a r → Meets L b r → Pair L (a / L.t) (b / L.t)
  row_pair_sections {a} {b} r ma mb ne ha hb = record { first = ma; second = mb; differ = λ s. ne (meets_unique L ok a b ma s ha hb) }

  -- the shifts of places on one bottom row
  bottom_cross : (c d : ℕ) → (c / L.t) ∈ L.sections → (d / L.t) ∈ L.sections → bottom L c ≡ bottom L d
      → (top L c + L.shift (d / L.t)) % L.t ≡ (top L d + L.shift (c / L.t)) % L.t
  bottom_cross c d mc md e =
      rw (top_offset_lem L ok c, top_offset_lem L ok d)
      ((same_difference L.t (L.shift (c / L.t)) (L.shift (d / L.t)) (c % L.t) (d % L.t) (le_of_lt (ok.below (c / L.t) mc)) (le_of_lt (ok.below (d / L.t) md))).0
      (bottom_residue L ok c d e))

  module _ (E l : List ℕ) (er : Erased L E) (cycle : Cycle L E l) where
    place : (p : ℕ) → p < length l → (at l p / L.t) ∈ L.sections
    place p h = (places_∈ L (er.inside (at l p) (cycle.inside p h))).1

    differ : (p q : ℕ) → p < length l → q < length l → p ≢ q → at l p ≢ at l q
    differ p q h g n e = n (cycle.distinct p q h g e)

    pub cycle_one : cycle.half ≡ 1 → EqualShifts L
    cycle_one one =
        let len : length l ≡ 2 = omega (arith, cycle.even) in
        let h0 : 0 < length l = omega arith in
        let h1 : 1 < length l = omega arith in
        let et : top L (at l 0) ≡ top L (at l 1) = cycle.share_top 0 (omega arith) in
        let eb : bottom L (at l 1) ≡ bottom L (at l 0) = rw len at cycle.close in
        let m0 = place 0 h0 in
        let m1 = place 1 h1 in
        record {
          i = at l 0 / L.t;
          j = at l 1 / L.t;
          pair = row_pair_sections (top L (at l 0)) m0 m1 (differ 0 1 h0 h1 (omega arith)) (inl refl) (inl et);
          equal = residue_unique (ok.below (at l 0 / L.t) m0) (ok.below (at l 1 / L.t) m1)
              (mod_cancel_left L.t (L.shift (at l 0 / L.t)) (L.shift (at l 1 / L.t)) (top L (at l 0))
              (rw (← et) at (bottom_cross (at l 1) (at l 0) m1 m0 eb)));
        }

    pub cycle_two : cycle.half ≡ 2 → ¬ (Ruler L)
    cycle_two two ruler =
        let len : length l ≡ 4 = omega (arith, cycle.even) in
        let h0 : 0 < length l = omega arith in
        let h1 : 1 < length l = omega arith in
        let h2 : 2 < length l = omega arith in
        let h3 : 3 < length l = omega arith in
        let t01 : top L (at l 0) ≡ top L (at l 1) = cycle.share_top 0 (omega arith) in
        let t23 : top L (at l 2) ≡ top L (at l 3) = cycle.share_top 1 (omega arith) in
        let b12 : bottom L (at l 1) ≡ bottom L (at l 2) = cycle.share_bottom 0 (omega arith) in
        let b30 : bottom L (at l 3) ≡ bottom L (at l 0) = rw len at cycle.close in
        let m0 = place 0 h0 in
        let m1 = place 1 h1 in
        let m2 = place 2 h2 in
        let m3 = place 3 h3 in
        let p0 = L.shift (at l 0 / L.t) in
        let p1 = L.shift (at l 1 / L.t) in
        let p2 = L.shift (at l 2 / L.t) in
        let p3 = L.shift (at l 3 / L.t) in
        let k = top L (at l 0) in
        let k' = top L (at l 2) in
        let one : (k + p2) % L.t ≡ (k' + p1) % L.t = rw (← t01) at (bottom_cross (at l 1) (at l 2) m1 m2 b12) in
        let other : (k' + p0) % L.t ≡ (k + p3) % L.t = rw (← t23) at (bottom_cross (at l 3) (at l 0) m3 m0 b30) in
        let left : k + p2 + (k' + p0) ≡ p0 + p2 + (k + k') = omega arith in
        let right : k' + p1 + (k + p3) ≡ p1 + p3 + (k + k') = omega arith in
        let cross : (p0 + p2) % L.t ≡ (p1 + p3) % L.t =
        mod_cancel_right L.t (p0 + p2) (p1 + p3) (k + k') (rw (left, right) at (add_congr L.t (k + p2) (k' + p1) (k' + p0) (k + p3) one other)) in
        (row_pair_sections (top L (at l 0)) m0 m1 (differ 0 1 h0 h1 (omega arith)) (inl refl) (inl t01)).differ
        (ruler.rule (at l 0 / L.t) (at l 3 / L.t) (at l 1 / L.t) (at l 2 / L.t)
        (row_pair_sections (bottom L (at l 0)) m0 m3 (differ 0 3 h0 h3 (omega arith)) (inr refl) (inr (sym b30)))
        (row_pair_sections (bottom L (at l 1)) m1 m2 (differ 1 2 h1 h2 (omega arith)) (inr refl) (inr b12))
        ((same_difference L.t p3 p2 p0 p1 (le_of_lt (ok.below (at l 3 / L.t) m3)) (le_of_lt (ok.below (at l 2 / L.t) m2))).1 cross)).0

  ruler_apart : Ruler L → ¬ (EqualShifts L)
  ruler_apart ruler s =
      s.pair.differ
      (ruler.rule s.i s.j s.j s.i s.pair (record { first = s.pair.second; second = s.pair.first; differ = λ e. s.pair.differ (sym e) })
      (rw s.equal)).0

  -- the place of section j at offset x mod t
  slot : ℕ → ℕ → ℕ
  slot j x = place_of L.t j (x % L.t)

  slot_∈ : {j : ℕ} → j ∈ L.sections → (x : ℕ) → slot j x ∈ places L
  unfolding slot
  slot_∈ m x = place_∈ L ok m (mod-lt x ok.positive)

  slot_top : (i j x : ℕ) → top L (slot i x) ≡ top L (slot j x)
  unfolding slot
  slot_top i j x = top_of L ok i (mod-lt x ok.positive) ∙ sym (top_of L ok j (mod-lt x ok.positive))

  slot_section : {i j : ℕ} (x y : ℕ) → i ≢ j → slot i x ≢ slot j y
  unfolding slot
  slot_section {i} {j} x y n e = n (sym (section_of i (mod-lt x ok.positive)) ∙ ap (λ c. c / L.t) e ∙ section_of j (mod-lt y ok.positive))

  slot_offset : (i j x y : ℕ) → x % L.t ≢ y % L.t → slot i x ≢ slot j y
  unfolding slot
  slot_offset i j x y n e = n (sym (offset_of i (mod-lt x ok.positive)) ∙ ap (λ c. c % L.t) e ∙ offset_of j (mod-lt y ok.positive))

  slot_bottom : {i j : ℕ} → i ∈ L.sections → j ∈ L.sections → (x y : ℕ) → (x + L.shift j) % L.t ≡ (y + L.shift i) % L.t → bottom L (slot i x) ≡ bottom L (slot j y)
  unfolding slot bottom_row
  slot_bottom {i} {j} mi mj x y e =
      bottom_of L ok i (mod-lt x ok.positive)
      ∙ ap (λ b. L.t + b)
      ((same_difference L.t (L.shift i) (L.shift j) (x % L.t) (y % L.t) (le_of_lt (ok.below i mi)) (le_of_lt (ok.below j mj))).1
      (mod-add-mod x L.t (L.shift j) ∙ e ∙ sym (mod-add-mod y L.t (L.shift i))))
      ∙ sym (bottom_of L ok j (mod-lt y ok.positive))

  two_weight : EqualShifts L → NonzeroWeight L 2
  two_weight s =
      let a = slot s.i 0 in
      let b = slot s.j 0 in
      list_weight (a ∷ b ∷ []) (distinct_more (apart (slot_section 0 0 s.pair.differ) alone) (distinct_more alone distinct_none))
      (inside_more (slot_∈ s.pair.first 0) (inside_more (slot_∈ s.pair.second 0) inside_none)) a (here refl)
      (λ r. ring_two (λ k. only (eqb r k) 1) (top L) (bottom L) a b (slot_top s.i s.j 0)
      (slot_bottom s.pair.second s.pair.first 0 0 (ap (λ p. (0 + p) % L.t) s.equal)))

  pub distance_equal : EqualShifts L → Least (NonzeroWeight L) 2
  distance_equal s =
      record {
        has = two_weight s;
        least = λ y w. let k = weight_cycle y w in omega (arith, k.3.even, k.3.least, k.4);
      }

  different : {i j : ℕ} → ¬ (EqualShifts L) → Pair L i j → L.shift i ≢ L.shift j
  different n p e = n (record { i = _; j = _; pair = p; equal = e })

  cross_shifts : (i j k l : ℕ) → j ∈ L.sections → l ∈ L.sections
      → (L.shift i + L.t - L.shift j) % L.t ≡ (L.shift k + L.t - L.shift l) % L.t → (L.shift i + L.shift l) % L.t ≡ (L.shift k + L.shift j) % L.t
  cross_shifts i j k l mj ml e =
      (same_difference L.t (L.shift j) (L.shift l) (L.shift i) (L.shift k) (le_of_lt (ok.below j mj)) (le_of_lt (ok.below l ml))).0 e

  four_weight : ¬ (EqualShifts L) → (i j k l : ℕ) → Pair L i j → Pair L k l → Pair L i k
      → (L.shift i + L.t - L.shift j) % L.t ≡ (L.shift k + L.t - L.shift l) % L.t → NonzeroWeight L 4
  four_weight n i j k l ij kl ik e =
      list_weight (a ∷ b ∷ c ∷ d ∷ [])
      (distinct_more (apart (slot_section pk pk ik.differ) (apart (slot_offset i l pk pl offsets) (apart (slot_section pk pl ij.differ) alone)))
      (distinct_more (apart (slot_section pk pl kl.differ) (apart (slot_offset k j pk pl offsets) alone))
      (distinct_more (apart (slot_section pl pl jl) alone) (distinct_more alone distinct_none))))
      (inside_more (slot_∈ ij.first pk) (inside_more (slot_∈ kl.first pk) (inside_more (slot_∈ kl.second pl) (inside_more (slot_∈ ij.second pl) inside_none))))
      a (here refl)
      (λ r. ring_four (λ x. only (eqb r x) 1) (top L) (bottom L) a b c d (slot_top i k pk)
      (slot_bottom kl.first kl.second pk pl (ap (λ x. x % L.t) (add_comm pk pl))) (slot_top l j pl)
      (slot_bottom ij.second ij.first pl pk (ap (λ x. x % L.t) (add_comm pl (L.shift i)) ∙ cross)))
    where
      pk : ℕ
      pk = L.shift k

      pl : ℕ
      pl = L.shift l

      a : ℕ
      a = slot i pk

      b : ℕ
      b = slot k pk

      c : ℕ
      c = slot l pl

      d : ℕ
      d = slot j pl

      cross : (L.shift i + pl) % L.t ≡ (pk + L.shift j) % L.t
      cross = cross_shifts i j k l ij.second kl.second e

      jl : l ≢ j
      jl p =
          different n ik (residue_unique (ok.below i ik.first) (ok.below k ik.second)
          (mod_cancel_right L.t (L.shift i) pk (L.shift j) (ap (λ s. (L.shift i + L.shift s) % L.t) (sym p) ∙ cross)))

      offsets : pk % L.t ≢ pl % L.t
      offsets z = different n kl (residue_unique (ok.below k kl.first) (ok.below l kl.second) z)

  six_weight : ¬ (EqualShifts L) → (i j k : ℕ) → Pair L i j → Pair L j k → Pair L i k → NonzeroWeight L 6
  six_weight n i j k ij jk ik =
      list_weight (a ∷ b ∷ c ∷ d ∷ e ∷ f ∷ [])
      (distinct_more (apart (slot_section x x nij) (apart (slot_section x y nik) (apart (slot_offset i i x y (left pi jk)) (apart (slot_section x z nij) (apart (slot_section x z nik) alone)))))
      (distinct_more (apart (slot_section x y njk) (apart (slot_section x y (ne nij)) (apart (slot_offset j j x z xz) (apart (slot_section x z njk) alone))))
      (distinct_more (apart (slot_section y y (ne nik)) (apart (slot_section y z (ne njk)) (apart (slot_offset k k y z yz) alone)))
      (distinct_more (apart (slot_section y z nij) (apart (slot_section y z nik) alone))
      (distinct_more (apart (slot_section z z njk) alone) (distinct_more alone distinct_none))))))
      (inside_more (slot_∈ ij.first x) (inside_more (slot_∈ ij.second x) (inside_more (slot_∈ ik.second y)
      (inside_more (slot_∈ ij.first y) (inside_more (slot_∈ ij.second z) (inside_more (slot_∈ ik.second z) inside_none))))))
      a (here refl)
      (λ r. ring_six (λ u. only (eqb r u) 1) (top L) (bottom L) a b c d e f (slot_top i j x)
      (slot_bottom ij.second ik.second x y (ap (λ u. u % L.t) (omega arith))) (slot_top k i y)
      (slot_bottom ij.first ij.second y z (ap (λ u. u % L.t) (omega arith))) (slot_top j k z)
      (slot_bottom ik.second ij.first z x (ap (λ u. u % L.t) (omega arith))))
    where
      pi : ℕ
      pi = L.shift i

      x : ℕ
      x = L.shift i + L.shift j

      y : ℕ
      y = L.shift i + L.shift k

      z : ℕ
      z = L.shift j + L.shift k

      a : ℕ
      a = slot i x

      b : ℕ
      b = slot j x

      c : ℕ
      c = slot k y

      d : ℕ
      d = slot i y

      e : ℕ
      e = slot j z

      f : ℕ
      f = slot k z

      nij : i ≢ j
      nij = ij.differ

      njk : j ≢ k
      njk = jk.differ

      nik : i ≢ k
      nik = ik.differ

      ne : {u v : ℕ} → u ≢ v → v ≢ u
      ne h q = h (sym q)

      left : {u v : ℕ} (p : ℕ) → Pair L u v → (p + L.shift u) % L.t ≢ (p + L.shift v) % L.t
      left {u} {v} p h q =
          different n h (residue_unique (ok.below u h.first) (ok.below v h.second) (mod_cancel_left L.t (L.shift u) (L.shift v) p q))

      xz : x % L.t ≢ z % L.t
      xz q = left (L.shift j) ik (ap (λ u. u % L.t) (add_comm (L.shift j) (L.shift i)) ∙ q)

      yz : y % L.t ≢ z % L.t
      yz q = left (L.shift k) ij (ap (λ u. u % L.t) (add_comm (L.shift k) (L.shift i)) ∙ q ∙ ap (λ u. u % L.t) (add_comm (L.shift j) (L.shift k)))

  -- two pairs of sections with one difference
  abbrev Clash : ℕ → ℕ → ℕ → ℕ → Type 0
  Clash i j k l = (i ≢ j) × ((k ≢ l) × ((i ≢ k) × ((L.shift i + L.t - L.shift j) % L.t ≡ (L.shift k + L.t - L.shift l) % L.t)))

  clash : Dec ((i : ℕ) × (i ∈ L.sections) × ((j : ℕ) × (j ∈ L.sections) × ((k : ℕ) × (k ∈ L.sections) × ((l : ℕ) × (l ∈ L.sections) × Clash i j k l))))
  clash =
      let S = L.sections in
      dec_some (λ i. (j : ℕ) × (j ∈ S) × ((k : ℕ) × (k ∈ S) × ((l : ℕ) × (l ∈ S) × Clash i j k l)))
      (λ i. dec_some (λ j. (k : ℕ) × (k ∈ S) × ((l : ℕ) × (l ∈ S) × Clash i j k l))
      (λ j. dec_some (λ k. (l : ℕ) × (l ∈ S) × Clash i j k l)
      (λ k. dec_some (λ l. Clash i j k l)
      (λ l. Dec.and (Dec.not (ℕ_discrete i j)) (Dec.and (Dec.not (ℕ_discrete k l)) (Dec.and (Dec.not (ℕ_discrete i k))
      (ℕ_discrete ((L.shift i + L.t - L.shift j) % L.t) ((L.shift k + L.t - L.shift l) % L.t))))) S) S) S) S

  -- where no difference comes twice the ruler rule holds
  no_clash : ¬ (EqualShifts L) → ((i j k l : ℕ) → Pair L i j → Pair L k l → ¬ (Clash i j k l)) → Ruler L
  no_clash n none =
      record {
        rule = λ i j k l ij kl e.
            by_cases (ℕ_discrete i k)
            (λ p. (
              p,
              by_cases (ℕ_discrete j l) (λ q. q)
                  (λ d. absurd (different n (record { first = kl.second; second = ij.second; differ = λ q. d (sym q) })
                  (residue_unique (ok.below l kl.second) (ok.below j ij.second)
                  (mod_cancel_left L.t (L.shift l) (L.shift j) (L.shift i)
                  (cross_shifts i j k l ij.second kl.second e ∙ ap (λ s. (L.shift s + L.shift j) % L.t) (sym p)))))),
            ))
            (λ d. absurd (none i j k l ij kl (ij.differ, (kl.differ, (d, e)))));
      }

  pub distance_other : 3 ≤ length L.sections → ¬ (EqualShifts L) → ¬ (Ruler L) → Least (NonzeroWeight L) 4
  distance_other many n nr =
      record {
        has = by_cases clash
            (λ s. let i = s.0 in let j = s.2.0 in let k = s.2.2.0 in let l = s.2.2.2.0 in let q = s.2.2.2.2 in
            four_weight n i j k l (record { first = s.1; second = s.2.1; differ = q.0 }) (record { first = s.2.2.1; second = s.2.2.2.1; differ = q.1.0 })
            (record { first = s.1; second = s.2.2.1; differ = q.1.1.0 }) q.1.1.1)
            (λ none. absurd (nr (no_clash n (λ i j k l ij kl q. none (i, ij.first, (j, ij.second, (k, kl.first, (l, kl.second, q))))))));
        least = λ y w.
            let k = weight_cycle y w in
            let one : k.3.half ≢ 1 = λ e. n (cycle_one k.0 k.1 k.2 k.3 e) in
            omega (arith, k.3.even, k.3.least, k.4);
      }

  pub distance_ruler : 3 ≤ length L.sections → Ruler L → Least (NonzeroWeight L) 6
  distance_ruler many ruler =
      record {
        has = six_weight n (at L.sections 0) (at L.sections 1) (at L.sections 2) (pick 0 1 (omega arith) (omega arith))
            (pick 1 2 (omega arith) (omega arith)) (pick 0 2 (omega arith) (omega arith));
        least = λ y w.
            let k = weight_cycle y w in
            let one : k.3.half ≢ 1 = λ e. n (cycle_one k.0 k.1 k.2 k.3 e) in
            let two : k.3.half ≢ 2 = λ e. cycle_two k.0 k.1 k.2 k.3 e ruler in
            omega (arith, k.3.even, k.3.least, k.4);
      }
    where
      n : ¬ (EqualShifts L)
      n = ruler_apart ruler

      pick : (p q : ℕ) → p < q → q < length L.sections → Pair L (at L.sections p) (at L.sections q)
      pick p q h g =
          record {
            first = get_or_∈ L.sections (omega arith);
            second = get_or_∈ L.sections g;
            differ = λ e. let r : at L.sections p < at L.sections q = rising_get_or ok.rising h g in omega arith;
          }

  distance_pair_lower : (i j : ℕ) → L.sections ≡ i ∷ j ∷ [] → Pair L i j → (y : ℕ) → NonzeroWeight L y → pair_number L i j ≤ y
  distance_pair_lower i j e pair y w =
      let S = support L w.word in
      let f = support_∈ L w.word (support_some L y w) in
      omega (
        arith,
        w.value,
        weight_support L w.word,
        nonzero_many L ok i j pair (at w.word) w.codeword.sums S
            (λ c m. by_place (rw e at (places_∈ L (support_∈ L w.word m).0).1) inl (λ k. by_place k inr (λ z. absurd (alone z))))
            (λ c m ne. ∈_support L w.word m ne) (at S 0) f.0 f.1,
      )

  pub distance_pair : (i j : ℕ) → L.sections ≡ i ∷ j ∷ [] → Least (NonzeroWeight L) (pair_number L i j)
  distance_pair i j e =
      let pair : Pair L i j =
      record {
        first = rw e (here refl);
        second = rw e (there (here refl));
        differ = λ p. let h : i < j = rising_head (rw e at ok.rising) (here refl) in omega arith;
      } in
      let k = pair_comb L ok i j pair in
      record {
        has = subst (NonzeroWeight L) k.3 (indicator_weight k.0 (rising_distinct k.1.rising) k.1.inside (place_of L.t i 0) k.5 k.4);
        least = distance_pair_lower i j e pair;
      }
