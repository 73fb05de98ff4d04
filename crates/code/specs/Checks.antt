-- Parity checks in general: a check is a list of positions, none twice, whose symbols must sum to 0; a family is a list of checks.
-- The rows of a layout are such a family.
use Rattle.std.specs.Prelude.{◌≡◌, cond, ℕ, eqb}
use mathlib.Core.List.{List, Memᴰ, map}
use Rattle.math.specs.Members.{◌∈◌, keep}
use Rattle.math.specs.Sums.{xor_over}
use Rattle.plan.specs.Layout.{Layout}
use Rattle.code.specs.Places.{places, rows, meets}

-- every check of the family sums to 0
pub record Satisfies (checks : List (List ℕ)) (w : ℕ → ℕ) : Type 0 where
  pub sums : (K : List ℕ) → Memᴰ K checks → xor_over K w ≡ 0

-- w satisfies the family and equals v at each position that is not erased
pub record Fills (checks : List (List ℕ)) (E : List ℕ) (v w : ℕ → ℕ) : Type 0 where
  pub satisfies : Satisfies checks w
  pub unmarked : (c : ℕ) → ¬ (c ∈ E) → w c ≡ v c

-- v with x at position c
unfoldable pub update : (ℕ → ℕ) → ℕ → ℕ → ℕ → ℕ
update v c x d = cond (eqb d c) x (v d)

-- the places that meet row r
unfoldable pub row_places : Layout → ℕ → List ℕ
row_places L r = keep (λ c. meets L c r) (places L)

-- the rows of a layout as a family of checks
unfoldable pub row_checks : Layout → List (List ℕ)
unfolding row_places
row_checks L = map (λ r. row_places L r) (rows L)
