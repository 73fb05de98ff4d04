-- What the tallies are bounded by: a section has one place on a row, so no row has more erasures than there are sections, 32 at most, and
-- the sections on it add up to less than 1,024. So a tally fits 16 bits (tally_room) and says how many there are (tally_counts).
use Rattle.std.specs.Prelude.{◌≡◌, List, map, ℕ, ◌+◌, ◌*◌, ◌/◌, ◌%◌, ◌≤◌, ◌<◌, length, get_or}
use Rattle.std.proofs.Math.Path.{sym, ap, subst}
use Rattle.std.proofs.Common.{◌∙◌, arith}
use Rattle.std.proofs.Math.Logic.{⊎_elim}
use Rattle.std.proofs.lemmas.List.{length-map}
use Rattle.math.specs.Members.{◌∈◌}
use Rattle.math.specs.MembersLaws.{up_to_∈, length_up_to, rising_distinct}
use Rattle.math.specs.Sums.{sum_over}
use Rattle.math.specs.SumsLaws.{sum_over_add, sum_over_const, sum_over_le, sum_over_split, sum_over_zero}
use Rattle.math.specs.Pigeonhole.{map_mem, distinct_map, distinct_length}
use Rattle.bounds.specs.Bounds.{max_n}
use Rattle.plan.specs.Layout.{Layout, Valid, layout, top_row, bottom_row, top, bottom}
use Rattle.plan.specs.GoodPlan.{GoodPlan, plan_valid}
use Rattle.code.specs.Places.{Meets}
use Rattle.code.specs.Rounds.{on_row}
use Rattle.code.proofs.Laws.Basics.{places_∈, place_unique, offset_lt, top≢bottom, meets_row}
use Rattle.code.specs.Laws.Forest.{Erased}
use Rattle.code.proofs.Laws.Leaves.{∈_length, ∈_on_row, on_row_∈, distinct_on_row}
use Rattle.tables.specs.Picture.{tally_unit, weight, counts, Counted}
use Rattle.tables.proofs.Spots.{bottom_injective}

module _ (L : Layout) (ok : Valid L) where
  -- two places of a section on one row are one
  same_bottom : (c d : ℕ) → (c / L.t) ∈ L.sections → c / L.t ≡ d / L.t → bottom L c ≡ bottom L d → c % L.t ≡ d % L.t
  unfolding bottom
  same_bottom c d i e h =
      bottom_injective (ok.below (c / L.t) i) (offset_lt L ok c) (offset_lt L ok d)
      (h ∙ ap (λ j. bottom_row L.t (L.shift j) (d % L.t)) (sym e))

  one_in_section : (c d r : ℕ) → (c / L.t) ∈ L.sections → Meets L c r → Meets L d r → c / L.t ≡ d / L.t → c ≡ d
  unfolding top top_row
  one_in_section c d r i m k e =
      place_unique L.t c d e
      (⊎_elim
      (λ a. ⊎_elim (λ b. sym a ∙ b) (λ b. absurd (top≢bottom L ok c d (sym a ∙ b))) k)
      (λ a. ⊎_elim (λ b. absurd (top≢bottom L ok d c (sym b ∙ a))) (λ b. same_bottom c d i e (sym a ∙ b)) k)
      m)

  pub on_row_count : {E : List ℕ} → Erased L E → (r : ℕ) → length (on_row L E r) ≤ length L.sections
  on_row_count {E} er r =
      omega (
        arith,
        length-map (on_row L E r) (λ c. c / L.t),
        distinct_length (distinct_map (λ c. c / L.t) (distinct_on_row L r (rising_distinct er.rising)) apart) inside,
      )
    where
      section : (c : ℕ) → c ∈ on_row L E r → (c / L.t) ∈ L.sections
      section c i = (places_∈ L (er.inside c (on_row_∈ L E r i).0)).1

      apart : (c d : ℕ) → c ∈ on_row L E r → d ∈ on_row L E r → c / L.t ≡ d / L.t → c ≡ d
      apart c d i j e = one_in_section c d r (section c i) (on_row_∈ L E r i).1 (on_row_∈ L E r j).1 e

      inside : (j : ℕ) → j ∈ map (λ c. c / L.t) (on_row L E r) → j ∈ L.sections
      inside j i = let o = map_mem (λ c. c / L.t) (on_row L E r) i in rw o.2 (section o.0 o.1)

module _ {n t : ℕ} {shifts : List ℕ} (s : GoodPlan n t shifts) {E : List ℕ} (er : Erased (layout n t shifts) E) where
  few : (r : ℕ) → length (on_row (layout n t shifts) E r) ≤ max_n
  unfolding layout
  few r = omega (arith, on_row_count (layout n t shifts) (plan_valid s) er r, length_up_to n, s.n_max)

  -- the weights on a row: so many times 1,024, and the sections
  weights : (r : ℕ) → sum_over (on_row (layout n t shifts) E r) (weight t)
      ≡ length (on_row (layout n t shifts) E r) * tally_unit + sum_over (on_row (layout n t shifts) E r) (λ c. c / t)
  unfolding weight
  weights r = sum_over_add (on_row (layout n t shifts) E r) (λ c. tally_unit) (λ c. c / t)
      ∙ ap (λ y. y + sum_over (on_row (layout n t shifts) E r) (λ c. c / t)) (sum_over_const (on_row (layout n t shifts) E r) tally_unit)

  sections_few : (r : ℕ) → sum_over (on_row (layout n t shifts) E r) (λ c. c / t) ≤ length (on_row (layout n t shifts) E r) * 31
  unfolding layout
  sections_few r =
      subst (λ y. sum_over (on_row (layout n t shifts) E r) (λ c. c / t) ≤ y) (sum_over_const (on_row (layout n t shifts) E r) 31)
      (sum_over_le (on_row (layout n t shifts) E r) (λ c. c / t) (λ c. 31) (λ c m.
      omega (arith, up_to_∈ n (places_∈ (layout n t shifts) (er.inside c (on_row_∈ (layout n t shifts) E r m).0)).1, s.n_max)))

module _ {n t : ℕ} {shifts : List ℕ} (s : GoodPlan n t shifts) {E tally : List ℕ} (C : Counted (layout n t shifts) E tally) where
  tally_is : {r : ℕ} → r < 2 * (layout n t shifts).t → get_or tally r 0
      ≡ length (on_row (layout n t shifts) E r) * tally_unit + sum_over (on_row (layout n t shifts) E r) (λ c. c / t)
  unfolding layout
  tally_is {r} h = C.tallies r h ∙ weights s C.erased r

  -- what the tally counts
  pub tally_counts : {r : ℕ} → r < 2 * (layout n t shifts).t → counts tally r ≡ length (on_row (layout n t shifts) E r)
  unfolding counts
  tally_counts {r} h = omega (arith, tally_is h, sections_few s C.erased r, few s C.erased r)

  -- there is room for one more
  pub tally_room : {r : ℕ} → r < 2 * (layout n t shifts).t → get_or tally r 0 + (tally_unit + max_n) ≤ 65536
  tally_room {r} h = omega (arith, tally_is h, sections_few s C.erased r, few s C.erased r)

module _ (L : Layout) (ok : Valid L) {E tally : List ℕ} (C : Counted L E tally) where
  -- a tally is no less than the weight of a place on the row
  pub tally_some : {c r : ℕ} → c ∈ E → Meets L c r → weight L.t c ≤ get_or tally r 0
  tally_some {c} {r} m h =
      omega (
        arith,
        C.tallies r (meets_row L ok c h),
        sum_over_split (weight L.t) (distinct_on_row L r (rising_distinct C.erased.rising)) (∈_on_row L m h),
      )

  -- with no place on the row it is 0
  pub tally_none : {r : ℕ} → r < 2 * L.t → length (on_row L E r) ≡ 0 → get_or tally r 0 ≡ 0
  tally_none {r} h z = C.tallies r h ∙ sum_over_zero (on_row L E r) (weight L.t) (λ c m. absurd (omega (arith, z, ∈_length m)))
