-- The place of a section on a row: its offset, and the row that it meets beside that one.
-- Main results: beside_high, -low, -early and -late (with no division), beside_place and beside_sides (which place it is, and which rows these are).
use Rattle.std.specs.Prelude.{◌≡◌, ◌⊎◌, List, ℕ, ◌+◌, ◌-◌, ◌*◌, ◌/◌, ◌%◌, ◌≤◌, ◌<◌, get_or}
use Rattle.std.proofs.Math.Path.{refl, ap}
use Rattle.std.proofs.Common.{sym, ◌∙◌, subst, inl, inr, ⊎_elim, mod-lt, div-add-mod', arith}
use Rattle.math.specs.Members.{◌∈◌}
use Rattle.math.specs.MembersLaws.{up_to_∈}
use Rattle.plan.specs.Layout.{layout, top, bottom, top_row, bottom_row}
use Rattle.plan.specs.GoodPlan.{GoodPlan, plan_valid}
use Rattle.code.specs.Places.{places, Meets}
use Rattle.code.proofs.Laws.Basics.{places_∈, bottom_ge}
use Rattle.tables.proofs.Spots.{bottom_low, bottom_high, bottom_injective}
use Rattle.tables.specs.Beside.{Beside}

module _ {t p r : ℕ} (shift : p < t) where
  of_a_top : {b : ℕ} → r < t → b ≡ bottom_row t p r → Beside t p r r b
  of_a_top h e = record { of_top = λ _. (refl, e); of_bottom = λ l. absurd (omega arith) }

  pub beside_high : r < t → r + t - p < t → Beside t p r r (r + t - p + t)
  beside_high h l =
      let q : r + t - p + t ≡ t + (r + t - p) = omega arith in
      of_a_top h (q ∙ sym (bottom_high t p r shift (omega arith)))

  pub beside_low : r < t → t ≤ r + t - p → Beside t p r r (r + t - p)
  beside_low h l =
      let q : r + t - p ≡ t + (r - p) = omega arith in
      of_a_top h (q ∙ sym (bottom_low t p r h (omega arith)))

  of_a_bottom : {b : ℕ} → t ≤ r → b < t → bottom_row t p b ≡ r → Beside t p r b b
  of_a_bottom h l e = record { of_top = λ l. absurd (omega arith); of_bottom = λ _. (refl, l, e) }

  pub beside_early : t ≤ r → r - t + p < t → Beside t p r (r - t + p) (r - t + p)
  beside_early h l =
      let q : t + (r - t + p - p) ≡ r = omega arith in
      of_a_bottom h l (bottom_low t p (r - t + p) l (omega arith) ∙ q)

  pub beside_late : t ≤ r → r < 2 * t → t ≤ r - t + p → Beside t p r (r - t + p - t) (r - t + p - t)
  beside_late h m l =
      let q : t + (r - t + p - t + t - p) ≡ r = omega arith in
      of_a_bottom h (omega arith) (bottom_high t p (r - t + p - t) shift (omega arith) ∙ q)

-- the place of section j on row r
module _ {n t : ℕ} {shifts : List ℕ} (s : GoodPlan n t shifts) {c r j k b : ℕ} (inside : c ∈ places (layout n t shifts)) (meet : Meets (layout n t shifts) c r)
    (section : c / t ≡ j) (q : Beside t (get_or shifts j 0) r k b) where
  shift_small : get_or shifts j 0 < t
  unfolding layout
  shift_small = s.below j (subst (λ i. i < n) section (up_to_∈ n (places_∈ (layout n t shifts) inside).1))

  own_top : top (layout n t shifts) c ≡ c % t
  unfolding layout top top_row
  own_top = refl

  own_bottom : bottom (layout n t shifts) c ≡ bottom_row t (get_or shifts j 0) (c % t)
  unfolding layout bottom
  own_bottom = ap (λ i. bottom_row t (get_or shifts i 0) (c % t)) section

  below_bottom : r ≡ bottom (layout n t shifts) c → t ≤ r
  unfolding layout
  below_bottom h = omega (arith, h, bottom_ge (layout n t shifts) (plan_valid s) c)

  found : (k ≡ c % t) × (((r ≡ top (layout n t shifts) c) × (b ≡ bottom (layout n t shifts) c)) ⊎ ((r ≡ bottom (layout n t shifts) c) × (b ≡ top (layout n t shifts) c)))
  found =
      ⊎_elim
      (λ h.
      let g : r ≡ c % t = h ∙ own_top in
      let o = q.of_top (omega (arith, g, mod-lt c s.t_min)) in
      (o.0 ∙ g, inl (h, o.1 ∙ ap (bottom_row t (get_or shifts j 0)) g ∙ sym own_bottom)))
      (λ h.
      let l : t ≤ r = below_bottom h in
      let o = q.of_bottom l in
      let g : b ≡ c % t = bottom_injective shift_small o.1 (mod-lt c s.t_min) (o.2 ∙ h ∙ own_bottom) in
      (o.0 ∙ g, inr (h, g ∙ sym own_top)))
      meet

  pub beside_offset : k ≡ c % t
  beside_offset = found.0

  pub beside_place : j * t + k ≡ c
  beside_place = rw (sym section, beside_offset) (div-add-mod' c t)

  pub beside_sides : ((r ≡ top (layout n t shifts) c) × (b ≡ bottom (layout n t shifts) c)) ⊎ ((r ≡ bottom (layout n t shifts) c) × (b ≡ top (layout n t shifts) c))
  beside_sides = found.1
