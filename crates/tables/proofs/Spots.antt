-- A place with its section and offset, as a walk carries them.
-- Main results: the section, the rows and the weight of a place where a walk stands, and the section that a scan has reached.
use Rattle.std.specs.Prelude.{◌≡◌, List, ℕ, ◌+◌, ◌-◌, ◌*◌, ◌/◌, ◌%◌, ◌≤◌, ◌<◌, get_or}
use Rattle.std.proofs.Math.Path.{ap}
use Rattle.std.proofs.Math.Logic.{by_cases}
use Rattle.std.proofs.Math.Nat.{add-mod_right}
use Rattle.std.proofs.Common.{mod-eq_of_lt, div-lt_iff_lt-mul, mul-le-mul_right, suc-mul, add-one, arith}
use Rattle.std.proofs.Math.Decide.{dec_lt}
use Rattle.std.proofs.Math.Arith.{digits_div, digits_mod}
use Rattle.math.proofs.Residues.{back_injective}
use Rattle.plan.specs.Layout.{layout, top, bottom, top_row, bottom_row}
use Rattle.tables.specs.Picture.{tally_unit, weight}
use Rattle.tables.specs.Spots.{Reached, Stands}

module _ {t c j k : ℕ} (s : Stands t c j k) where
  pub stands_section : c / t ≡ j
  stands_section = rw s.whole (digits_div j s.within)

  pub stands_offset : c % t ≡ k
  stands_offset = rw s.whole (digits_mod j s.within)

  pub stands_inside : (n : ℕ) → c < n * t → j < n
  stands_inside n h =
      let p : 0 < t = omega arith in
      rw stands_section at ((div-lt_iff_lt-mul {y = n} p).1 h)

  pub stands_top : (n : ℕ) (shifts : List ℕ) → top (layout n t shifts) c ≡ k
  unfolding layout top top_row
  stands_top n shifts = stands_offset

  pub stands_bottom : (n : ℕ) (shifts : List ℕ) → bottom (layout n t shifts) c ≡ bottom_row t (get_or shifts j 0) k
  unfolding layout bottom
  stands_bottom n shifts = rw (stands_section, stands_offset)

  pub stands_weight : weight t c ≡ tally_unit + j
  unfolding weight
  stands_weight = ap (λ i. tally_unit + i) stands_section

-- the bottom row with no division
pub bottom_low : (t p k : ℕ) → k < t → p ≤ k → bottom_row t p k ≡ t + (k - p)
unfolding bottom_row
bottom_low t p k l h =
    let e : k + t - p ≡ k - p + t = omega arith in
    rw (e, add-mod_right (k - p) t, mod-eq_of_lt {n = k - p} {m = t} (omega arith))

pub bottom_high : (t p k : ℕ) → p < t → k < p → bottom_row t p k ≡ t + (k + t - p)
unfolding bottom_row
bottom_high t p k l h = rw (mod-eq_of_lt {n = k + t - p} {m = t} (omega arith))

-- no two places of a section share a bottom row
pub bottom_injective : {t p k k' : ℕ} → p < t → k < t → k' < t → bottom_row t p k ≡ bottom_row t p k' → k ≡ k'
unfolding bottom_row
bottom_injective {p = p} h l l' e = back_injective {p = p} (omega arith) l l' (omega (arith, e))

pub reached_on : {n t : ℕ} {shifts : List ℕ} {c j begin end p : ℕ} (c' : ℕ) → c ≤ c' → Reached n t shifts c j begin end p → Reached n t shifts c' j begin end p
reached_on c' h R = record { inside = R.inside; begins = R.begins; ends = R.ends; shift = R.shift; passed = omega (arith, R.passed) }

-- the section after j holds a place too
pub section_next : (n t j c : ℕ) → j * t + t ≤ c → c < n * t → (j + 1 < n) × ((j + 1) * t ≡ j * t + t)
section_next n t j c h l =
    let e : (j + 1) * t ≡ j * t + t = rw (add-one j, suc-mul) in
    (by_cases (dec_lt (j + 1) n) (λ g. g) (λ g. let f : n ≤ j + 1 = omega arith in absurd (omega (arith, mul-le-mul_right t f))), e)

pub reached_stands : {n t : ℕ} {shifts : List ℕ} {c j begin end p : ℕ} → Reached n t shifts c j begin end p → c < end → Stands t c j (c - begin)
reached_stands R h = record { whole = omega (arith, R.begins, R.passed); within = omega (arith, R.ends, R.passed) }
