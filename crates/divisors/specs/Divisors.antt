-- What two sections share, and the most that a pair of a relation shares: the greatest divisor gives the least figure.
-- Main definitions: sharing, Most, NeighbourOf.
use Rattle.std.specs.Prelude.{◌≡◌, ◌⊎◌, List, Option, Some, ℕ, ◌≤◌, ◌<◌, get_or}
use Rattle.math.specs.Gcd.{gcd, gap}
use Rattle.plan.specs.Layout.{layout}
use Rattle.code.specs.Figures.{Neighbours}

-- gcd(p_i - p_j, t)
unfoldable pub sharing : ℕ → List ℕ → ℕ → ℕ → ℕ
sharing t s i j = gcd (gap (get_or s i 0) (get_or s j 0)) t

-- g is what some pair of the relation shares
pub record Shared (t : ℕ) (s : List ℕ) (R : ℕ → ℕ → Type 0) (g : ℕ) : Type 0 where
  pub i : ℕ
  pub j : ℕ
  pub related : R i j
  pub value : g ≡ sharing t s i j

-- g is the most that a pair of the relation shares, and 0 where there is no pair
pub record Most (t : ℕ) (s : List ℕ) (R : ℕ → ℕ → Type 0) (g : ℕ) : Type 0 where
  pub all : (i j : ℕ) → R i j → sharing t s i j ≤ g
  pub some : 0 < g → Shared t s R g

-- section i and a section below j
abbrev pub Row : ℕ → ℕ → ℕ → ℕ → Type 0
Row i j k l = (k < j) × (l ≡ i)

-- the pairs of n sections, each once
abbrev pub Ordered : ℕ → ℕ → ℕ → Type 0
Ordered n k l = (k < l) × (l < n)

-- section j and its neighbour
abbrev pub Near : ℕ → ℕ → List ℕ → ℕ → ℕ → ℕ → Type 0
Near n t s j k l = (k ≡ j) × Neighbours (layout n t s) k l

-- sections below j and their neighbours
abbrev pub Passed : ℕ → ℕ → List ℕ → ℕ → ℕ → ℕ → Type 0
Passed n t s j k l = (k < j) × Neighbours (layout n t s) k l

-- r is the one neighbour of section j, or None where there is none
pub record NeighbourOf (n j : ℕ) (r : Option ℕ) : Type 0 where
  pub is : (t : ℕ) (s : List ℕ) (k : ℕ) → r ≡ Some k → Neighbours (layout n t s) j k
  pub only : (t : ℕ) (s : List ℕ) (k : ℕ) → Neighbours (layout n t s) j k → r ≡ Some k

pub record Greater (a b r : ℕ) : Type 0 where
  pub first : a ≤ r
  pub second : b ≤ r
  pub either : (r ≡ a) ⊎ (r ≡ b)
