-- Tallies that count exactly one, and the test that a list has none.
-- Main results: no_ones_at, gathers_ones.
use Rattle.std.specs.Prelude.{◌≡◌, refl, ◌≢◌, true, List, [], ◌∷◌, map, ℕ, zero, suc, ◌+◌, ◌/◌, eqb, get_or}
use Rattle.std.proofs.Common.{sym, ◌∙◌, subst, arith, eq-eqb}
use Rattle.std.specs.Int.Bits.{bit_or}
use mir.Val.{bool_byte}
use Rattle.slices.specs.Zeros.{all_zero, all_zero_at, Gathers, gathers_more}
use Rattle.tables.specs.Picture.{tally_unit}

-- 1 for a tally that counts exactly one, else 0
abbrev pub one : ℕ → ℕ
one x = bool_byte (eqb (x / tally_unit) 1)

pub one_at : (l : List ℕ) (i : ℕ) → get_or (map one l) i 0 ≡ one (get_or l i 0)
one_at [] i = refl
one_at (x ∷ l) zero = refl
one_at (x ∷ l) (suc i) = one_at l i

-- tallies of which none counts exactly one
pub no_ones_at : (l : List ℕ) → all_zero (map one l) ≡ true → (i : ℕ) → get_or l i 0 / tally_unit ≢ 1
no_ones_at l e i q =
    let z : one (get_or l i 0) ≡ 0 = sym (one_at l i) ∙ all_zero_at (map one l) e i in
    let o : one (get_or l i 0) ≡ 1 = rw (eq-eqb (get_or l i 0 / tally_unit) 1 q) refl in
    omega (arith, sym z ∙ o)

-- the tests of one number more
pub gathers_ones : (l : List ℕ) {i acc : ℕ} → Gathers (map one l) i acc → Gathers (map one l) (i + 1) (bit_or acc (one (get_or l i 0)))
gathers_ones l {i} {acc} g = subst (λ y. Gathers (map one l) (i + 1) (bit_or acc y)) (one_at l i) (gathers_more g)
