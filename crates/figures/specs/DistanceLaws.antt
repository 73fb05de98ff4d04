-- The distance by the pair figure and the ruler rule.
-- Main results: distance_two, distance_same, distance_rule, distance_else.
use Rattle.std.specs.Prelude.{◌≡◌, ◌≢◌, List, [], ◌∷◌, ℕ, ◌+◌, ◌-◌, ◌*◌, ◌/◌, ◌≤◌, ◌<◌, length, get_or}
use Rattle.std.proofs.Math.Path.{refl}
use Rattle.std.proofs.Common.{◌∙◌, ap, subst, le-div_iff_mul-le, mul-div_cancel}
use Rattle.std.proofs.Math.Logic.{by_cases}
use Rattle.std.specs.Int.{◌∣◌}
use native.Mathlib.Omega.{arith}
use Rattle.std.proofs.Math.Nat.{le_of_dvd, mul-div_cancel', mul-div_assoc, div-le_self}
use Rattle.std.proofs.Math.Decide.{ℕ_discrete, dec_lt}
use Rattle.math.specs.Gcd.{gcd, gap}
use Rattle.math.proofs.GcdLaws.{gcd_pos, gcd_le, gcd_dvd_left, gcd_dvd_right, gcd_zero_left, gap_comm, gap_self, gap_zero}
use Rattle.math.specs.Members.{up_to, from}
use Rattle.math.specs.MembersLaws.{up_to_∈, length_up_to}
use Rattle.bounds.specs.Bounds.{max_t}
use Rattle.plan.specs.Layout.{Layout, layout}
use Rattle.plan.specs.GoodPlan.{GoodPlan, plan_valid}
use Rattle.code.specs.Figures.{Least, Pair, pair_number, Capability, NonzeroWeight, EqualShifts, Ruler}
use Rattle.code.proofs.Theorems.{distance_equal, distance_ruler, distance_other, distance_pair}

-- a pair's number: the same in both orders, at least 2, and 2 exactly where the shifts are equal
pair_number_comm : (L : Layout) (i j : ℕ) → pair_number L i j ≡ pair_number L j i
unfolding pair_number
pair_number_comm L i j = ap (λ (x : ℕ). 2 * L.t / gcd x L.t) (gap_comm (L.shift i) (L.shift j))

pair_number_least : (L : Layout) (i j : ℕ) → 0 < L.t → 2 ≤ pair_number L i j
unfolding pair_number
pair_number_least L i j h = let g = gap (L.shift i) (L.shift j) in let l = gcd_le g h in (le-div_iff_mul-le (gcd_pos g h)).1 (omega arith)

pair_number_equal : (L : Layout) (i j : ℕ) → 0 < L.t → L.shift i ≡ L.shift j → pair_number L i j ≡ 2
unfolding pair_number
pair_number_equal L i j h e =
    let z : gcd (gap (L.shift i) (L.shift j)) L.t ≡ L.t = cc (gap_self (L.shift j), gcd_zero_left L.t) in
    ap (λ (x : ℕ). 2 * L.t / x) z ∙ mul-div_cancel 2 h

pair_number_two : (L : Layout) (i j : ℕ) → L.shift i < L.t → L.shift j < L.t → pair_number L i j ≡ 2 → L.shift i ≡ L.shift j
unfolding pair_number gap
pair_number_two L i j hi hj e =
    gap_zero (L.shift i) (L.shift j) (by_cases (dec_lt 0 d) (λ p. absurd (let l = le_of_dvd p divides in omega arith)) (λ p. omega arith))
  where
    d : ℕ
    d = gap (L.shift i) (L.shift j)

    g : ℕ
    g = gcd d L.t

    one : L.t / g ≡ 1
    one = let a = mul-div_assoc g 2 (gcd_dvd_right d L.t) in omega arith

    whole : g ≡ L.t
    whole =
        let a = mul-div_cancel' g (gcd_dvd_right d L.t) in
        let b : g * (L.t / g) ≡ g * 1 = ap (λ (x : ℕ). g * x) one in
        omega arith

    divides : L.t ∣ d
    divides = subst (λ (x : ℕ). x ∣ d) whole (gcd_dvd_left d L.t)

two_sections : (t : ℕ) (s : List ℕ) → (layout 2 t s).sections ≡ 0 ∷ 1 ∷ []
unfolding layout up_to from
two_sections t s = refl

module _ {n t : ℕ} {s : List ℕ} (u : GoodPlan n t s) where
  positive : 0 < (layout n t s).t
  unfolding layout
  positive = u.t_min

  pair_below : {i j : ℕ} → Pair (layout n t s) i j → (i < n) × (j < n)
  unfolding layout
  pair_below p = (up_to_∈ n p.first, up_to_∈ n p.second)

  -- of two sections all pairs have one number
  only_pair : {i j : ℕ} → n ≡ 2 → Pair (layout n t s) i j → pair_number (layout n t s) i j ≡ pair_number (layout n t s) 0 1
  only_pair {i} {j} two p =
      let b = pair_below p in
      let d = p.differ in
      by_cases (ℕ_discrete i 0) (λ e. let f : j ≡ 1 = omega arith in cc)
      (λ o. let e : i ≡ 1 = omega arith in let f : j ≡ 0 = omega arith in cc (pair_number_comm (layout n t s) 1 0))

  three : n ≢ 2 → 3 ≤ length (layout n t s).sections
  unfolding layout
  three many = let k = length_up_to n in let l = u.n_min in omega arith

  module _ {pair : ℕ} (least : Least (Capability (layout n t s) (Pair (layout n t s))) pair) where
    pub pair_fits : pair ≤ 2 * max_t
    unfolding layout pair_number
    pair_fits =
        let h = least.has in
        let v = h.value in
        let d = div-le_self (2 * t) (gcd (gap (get_or s h.i 0) (get_or s h.j 0)) t) in
        let m = u.t_max in
        omega arith

    pub distance_two : n ≡ 2 → Least (NonzeroWeight (layout n t s)) (pair + 1)
    distance_two two =
        let L = layout n t s in
        let h = least.has in
        let v = h.value in
        let m = pair_number_least L 0 1 positive in
        let k = only_pair two h.related in
        let number : pair_number L 0 1 ≡ pair + 1 = omega arith in
        subst (λ (x : ℕ). Least (NonzeroWeight L) x) number
        (distance_pair L (plan_valid u) 0 1 (ap (λ (x : ℕ). (layout x t s).sections) two ∙ two_sections t s))

    equal_one : EqualShifts (layout n t s) → pair ≡ 1
    unfolding layout
    equal_one e =
        let L = layout n t s in
        let two = pair_number_equal L e.i e.j u.t_min e.equal in
        let l = least.least (pair_number L e.i e.j - 1) (record { i = e.i; j = e.j; related = e.pair; value = refl }) in
        let h = least.has in
        let v = h.value in
        let m = pair_number_least L h.i h.j u.t_min in
        omega arith

    pub distance_same : pair ≡ 1 → Least (NonzeroWeight (layout n t s)) 2
    unfolding layout
    distance_same one =
        let L = layout n t s in
        let h = least.has in
        let b = pair_below h.related in
        let v = h.value in
        let m = pair_number_least L h.i h.j u.t_min in
        let two : pair_number L h.i h.j ≡ 2 = omega arith in
        let equal = pair_number_two L h.i h.j (u.below h.i b.0) (u.below h.j b.1) two in
        distance_equal L (plan_valid u) (record { i = h.i; j = h.j; pair = h.related; equal = equal })

    pub distance_else : n ≢ 2 → pair ≢ 1 → ¬ (Ruler (layout n t s)) → Least (NonzeroWeight (layout n t s)) 4
    distance_else many other breaks = distance_other (layout n t s) (plan_valid u) (three many) (λ e. other (equal_one e)) breaks

  pub distance_rule : n ≢ 2 → Ruler (layout n t s) → Least (NonzeroWeight (layout n t s)) 6
  distance_rule many keeps = distance_ruler (layout n t s) (plan_valid u) (three many) keeps
