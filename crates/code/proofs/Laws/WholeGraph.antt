-- T7: the components of the whole graph are the residues modulo g. Main result: whole_graph.
-- Top rows are named by any number modulo t. Where the places of several whole sections are at hand, every x is tied to x + m for each
-- difference m of their shifts; that is closed under subtraction, so it holds of the greatest common divisor.
use Rattle.std.specs.Prelude.{◌≡◌, ◌↔◌, List, map, ℕ, zero, suc, ◌+◌, ◌-◌, ◌*◌, ◌/◌, ◌%◌, ◌≤◌, ◌<◌, length, get_or}
use Rattle.std.proofs.Math.Path.{refl, ap}
use Rattle.std.proofs.Common.{sym, ◌∙◌, subst, inl, inr, mod-eq_of_lt, lt-ltb, le-ltb}
use Rattle.std.proofs.Math.Logic.{by_cases}
use Rattle.std.specs.Int.{◌∣◌}
use Rattle.std.proofs.Math.Nat.{mod-lt, add-mod_right, mod-add-div'}
use Rattle.std.proofs.Math.Decide.{dec_lt, dec_le}
use native.Mathlib.Omega.{arith}
use Rattle.math.specs.Gcd.{gcd_all, gap}
use Rattle.math.proofs.GcdLaws.{gcd_all_closed, gcd_all_dvd, gcd_all_dvd_base, gcd_all_pos, gcd_all_le, gap_comm, gap_of_le}
use Rattle.math.specs.Members.{◌∈◌}
use Rattle.math.specs.Pigeonhole.{get_or_∈, mem_map, map_mem}
use Rattle.math.proofs.Residues.{add_congr, forth_back, back_forth, dvd_residue, residue_gap}
use Rattle.plan.specs.Layout.{Layout, Valid, place_of, bottom_row, top, bottom, top_row, divisor}
use Rattle.code.specs.Places.{places, Meets}
use Rattle.code.specs.Components.{Connected, here, along}
use Rattle.code.proofs.Laws.Basics.{places_∈, place_∈, top_of, bottom_of, offset_lt}
use Rattle.code.specs.Laws.Forest.{class_of}
use Rattle.code.proofs.Laws.Labels.{connected_eq, connected_place, connected_sym, connected_trans}

-- every place of section j is in E
abbrev pub Full : Layout → List ℕ → ℕ → Type 0
Full L E j = (k : ℕ) → k < L.t → place_of L.t j k ∈ E

-- E connects each top row x with the top row x + m, modulo t
abbrev pub Tied : Layout → List ℕ → ℕ → Type 0
Tied L E m = (x : ℕ) → Connected L E (x % L.t) ((x + m) % L.t)

module _ (L : Layout) (ok : Valid L) (E : List ℕ) where
  -- the place of section j in bottom row y connects it with top row y + p_j
  pub linked : (j y : ℕ) → L.shift j < L.t → place_of L.t j ((y + L.shift j) % L.t) ∈ E
      → Connected L E (L.t + y % L.t) ((y + L.shift j) % L.t)
  unfolding bottom_row
  linked j y h m =
      let k : (y + L.shift j) % L.t < L.t = mod-lt (y + L.shift j) ok.positive in
      let e : bottom_row L.t (L.shift j) ((y + L.shift j) % L.t) ≡ L.t + y % L.t = ap (λ z. L.t + z) (forth_back y (omega arith)) in
      connected_sym (rw (top_of L ok j k, bottom_of L ok j k, e) at (connected_place L m))

  pub full_linked : {j : ℕ} (y : ℕ) → L.shift j < L.t → Full L E j → Connected L E (L.t + y % L.t) ((y + L.shift j) % L.t)
  full_linked {j} y h f = linked j y h (f ((y + L.shift j) % L.t) (mod-lt (y + L.shift j) ok.positive))

  pub tied_base : Tied L E L.t
  tied_base x = connected_eq L E (sym (add-mod_right x L.t))

  pub tied_sub : (a b : ℕ) → Tied L E a → Tied L E b → b ≤ a → Tied L E (a - b)
  tied_sub a b p q h x =
      let e : x + (a - b) + b ≡ x + a = omega arith in
      connected_trans (p x) (connected_sym (rw e at (q (x + (a - b)))))

  tied_up : (i j : ℕ) → L.shift i < L.t → L.shift j < L.t → Full L E i → Full L E j → L.shift i ≤ L.shift j → Tied L E (L.shift j - L.shift i)
  tied_up i j hi hj fi fj l x =
      let y = x + (L.t - L.shift i) in
      let e : x + (L.t - L.shift i) + L.shift i ≡ x + L.t = omega arith in
      let f : x + (L.t - L.shift i) + L.shift j ≡ x + (L.shift j - L.shift i) + L.t = omega arith in
      let a : (x + (L.t - L.shift i) + L.shift i) % L.t ≡ x % L.t = ap (λ z. z % L.t) e ∙ add-mod_right x L.t in
      let b : (x + (L.t - L.shift i) + L.shift j) % L.t ≡ (x + (L.shift j - L.shift i)) % L.t =
      ap (λ z. z % L.t) f ∙ add-mod_right (x + (L.shift j - L.shift i)) L.t in
      connected_trans (connected_sym (rw a at (full_linked y hi fi))) (rw b at (full_linked y hj fj))

  pub tied_gap : (i j : ℕ) → L.shift i < L.t → L.shift j < L.t → Full L E i → Full L E j → Tied L E (gap (L.shift j) (L.shift i))
  tied_gap i j hi hj fi fj =
      by_cases (dec_le (L.shift i) (L.shift j))
      (λ l. rw (gap_of_le l) (tied_up i j hi hj fi fj l))
      (λ n. let l : L.shift j ≤ L.shift i = omega arith in rw (gap_comm (L.shift j) (L.shift i), gap_of_le l) (tied_up j i hj hi fj fi l))

  -- whole sections tie by the divisor of their differences to one of them
  pub tied_divisor : (i : ℕ) (js : List ℕ) → i ∈ js → ((j : ℕ) → j ∈ js → (L.shift j < L.t) × Full L E j)
      → Tied L E (gcd_all L.t (map (λ j. gap (L.shift j) (L.shift i)) js))
  tied_divisor i js m h =
      gcd_all_closed (Tied L E) tied_sub L.t (map (λ j. gap (L.shift j) (L.shift i)) js) tied_base
      (λ x n. let s = map_mem (λ j. gap (L.shift j) (L.shift i)) js n in
      subst (Tied L E) (sym s.2) (tied_gap i s.0 (h i m).0 (h s.0 s.1).0 (h i m).1 (h s.0 s.1).1))

  tied_times : (m : ℕ) → Tied L E m → (q x : ℕ) → Connected L E (x % L.t) ((x + q * m) % L.t)
  tied_times m p zero x = let e : x ≡ x + zero * m = omega arith in connected_eq L E (ap (λ z. z % L.t) e)
  tied_times m p (suc q) x =
      let e : x + q * m + m ≡ x + suc q * m = omega arith in
      connected_trans (tied_times m p q x) (rw e at (p (x + q * m)))

  -- then every top row is connected with its residue
  pub tied_residue : (m : ℕ) → Tied L E m → (x : ℕ) → Connected L E (x % L.t) ((x % m) % L.t)
  tied_residue m p x = connected_sym (rw (mod-add-div' x m) at (tied_times m p (x / m) (x % m)))

  pub tied_same : (m : ℕ) → Tied L E m → (x y : ℕ) → x % m ≡ y % m → Connected L E (x % L.t) (y % L.t)
  tied_same m p x y e =
      connected_trans (tied_residue m p x) (connected_sym (rw e (tied_residue m p y)))

-- the class of a row by where it lies
pub class_top : (L : Layout) {r : ℕ} → r < L.t → class_of L r ≡ r % divisor L
unfolding class_of
class_top L {r} h = rw (lt-ltb r L.t h)

pub class_bottom : (L : Layout) {r : ℕ} → L.t ≤ r → class_of L r ≡ (r - L.t + L.shift (get_or L.sections 0 0)) % divisor L
unfolding class_of
class_bottom L {r} h = rw (le-ltb r L.t h)

module _ (L : Layout) (ok : Valid L) where
  pub divisor_pos : 0 < divisor L
  unfolding divisor
  divisor_pos = gcd_all_pos (map (λ j. gap (L.shift j) (L.shift (get_or L.sections 0 0))) L.sections) ok.positive

  pub divisor_le : divisor L ≤ L.t
  unfolding divisor
  divisor_le = gcd_all_le (map (λ j. gap (L.shift j) (L.shift (get_or L.sections 0 0))) L.sections) ok.positive

  divisor_base : divisor L ∣ L.t
  unfolding divisor
  divisor_base = gcd_all_dvd_base L.t (map (λ j. gap (L.shift j) (L.shift (get_or L.sections 0 0))) L.sections)

  divisor_shift : {j : ℕ} → j ∈ L.sections → L.shift j % divisor L ≡ L.shift (get_or L.sections 0 0) % divisor L
  unfolding divisor
  divisor_shift {j} m =
      (residue_gap (divisor L) (L.shift j) (L.shift (get_or L.sections 0 0))).1
      (gcd_all_dvd L.t (mem_map (λ i. gap (L.shift i) (L.shift (get_or L.sections 0 0))) m))

  pub full_section : {j : ℕ} → j ∈ L.sections → Full L (places L) j
  full_section m k h = place_∈ L ok m h

  pub class_lt : (r : ℕ) → class_of L r < divisor L
  class_lt r =
      by_cases (dec_lt r L.t)
      (λ h. rw (class_top L h) (mod-lt r divisor_pos))
      (λ h. rw (class_bottom L {r = r} (omega arith)) (mod-lt (r - L.t + L.shift (get_or L.sections 0 0)) divisor_pos))

  pub class_small : {r : ℕ} → r < divisor L → class_of L r ≡ r
  class_small {r} h = class_top L {r = r} (omega (arith, divisor_le)) ∙ mod-eq_of_lt h

  -- both rows of a place are of the class of its offset
  class_of_top : (c : ℕ) → class_of L (top L c) ≡ c % L.t % divisor L
  unfolding top top_row
  class_of_top c = class_top L (offset_lt L ok c)

  class_of_bottom : (c : ℕ) → c ∈ places L → class_of L (bottom L c) ≡ c % L.t % divisor L
  unfolding bottom bottom_row
  class_of_bottom c m =
      let g = divisor L in
      let k = c % L.t in
      let p = L.shift (c / L.t) in
      let z = (k + L.t - p) % L.t in
      let j = (places_∈ L m).1 in
      let l : p ≤ L.t = omega (arith, ok.below (c / L.t) j) in
      let e : L.t + z - L.t ≡ z = omega arith in
      class_bottom L {r = L.t + z} (omega arith)
      ∙ ap (λ y. (y + L.shift (get_or L.sections 0 0)) % g) e
      ∙ add_congr g z z (L.shift (get_or L.sections 0 0)) p refl (sym (divisor_shift j))
      ∙ dvd_residue g (z + p) k divisor_base (back_forth k l)

  class_of_place : (c : ℕ) {r : ℕ} → c ∈ places L → Meets L c r → class_of L r ≡ c % L.t % divisor L
  class_of_place c m (inl e) = ap (class_of L) e ∙ class_of_top c
  class_of_place c m (inr e) = ap (class_of L) e ∙ class_of_bottom c m

  pub class_same : {r s : ℕ} → Connected L (places L) r s → class_of L r ≡ class_of L s
  class_same here = refl
  class_same (along c h m a b) = class_same h ∙ class_of_place c m a ∙ sym (class_of_place c m b)

  module _ (some : 0 < length L.sections) where
    first_∈ : get_or L.sections 0 0 ∈ L.sections
    first_∈ = get_or_∈ L.sections some

    pub tied_whole : Tied L (places L) (divisor L)
    unfolding divisor
    tied_whole = tied_divisor L ok (places L) (get_or L.sections 0 0) L.sections first_∈ (λ j m. (ok.below j m, full_section m))

    -- every row is connected with the top row of its class
    pub class_connected : {r : ℕ} → r < 2 * L.t → Connected L (places L) r (class_of L r)
    class_connected {r} h =
        by_cases (dec_lt r L.t)
        (λ l. let e : (r % divisor L) % L.t ≡ r % divisor L = mod-eq_of_lt (omega (arith, mod-lt r divisor_pos, divisor_le)) in
        rw (class_top L l) (rw (mod-eq_of_lt l, e) at (tied_residue L ok (places L) (divisor L) tied_whole r)))
        (λ n. let y = r - L.t in
        let l : y < L.t = omega arith in
        let e : L.t + y ≡ r = omega arith in
        let x = y + L.shift (get_or L.sections 0 0) in
        let f : (x % divisor L) % L.t ≡ x % divisor L = mod-eq_of_lt (omega (arith, mod-lt x divisor_pos, divisor_le)) in
        rw (class_bottom L {r = r} (omega arith))
        (connected_trans
        (rw (mod-eq_of_lt l, e) at (full_linked L ok (places L) y (ok.below (get_or L.sections 0 0) first_∈) (full_section first_∈)))
        (rw f at (tied_residue L ok (places L) (divisor L) tied_whole x))))

    pub whole_graph : (r s : ℕ) → r < 2 * L.t → s < 2 * L.t → Connected L (places L) r s ↔ (class_of L r ≡ class_of L s)
    whole_graph r s hr hs =
        (class_same, λ e. connected_trans (class_connected hr) (rw e (connected_sym (class_connected hs))))
