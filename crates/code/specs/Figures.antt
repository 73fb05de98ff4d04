-- The four figures of a plan (01, "Families and figures").
use Rattle.std.specs.Prelude.{◌≡◌, ◌≢◌, ◌⊎◌, not, List, ℕ, ◌+◌, ◌-◌, ◌*◌, ◌/◌, ◌%◌, ◌≤◌, eqb, length}
use Rattle.math.specs.Members.{◌∈◌, keep}
use Rattle.math.specs.Gcd.{gcd, gap}
use Rattle.plan.specs.Layout.{Layout}
use Rattle.code.specs.Places.{places}
use Rattle.code.specs.Codewords.{at, Codeword}
use Rattle.code.specs.Messages.{Lists, Parity}

-- x is the least number with a property
pub record Least (P : ℕ → Type 0) (x : ℕ) : Type 0 where
  pub has : P x
  pub least : (y : ℕ) → P y → x ≤ y

-- "take 2t divided by the greatest common divisor of t and the difference of their two shifts"; that `gcd` divides both and every common
-- divisor divides it is `gcd_is`, and "the divisor of 0 and t is t" `gcd_zero_left`, beside its definition in math/specs/Gcd.antt
unfoldable pub pair_number : Layout → ℕ → ℕ → ℕ
pair_number L i j = 2 * L.t / gcd (gap (L.shift i) (L.shift j)) L.t

-- two different sections
pub record Pair (L : Layout) (i j : ℕ) : Type 0 where
  pub first : i ∈ L.sections
  pub second : j ∈ L.sections
  pub differ : i ≢ j

-- "Neighbouring sections are j and j + 1, and for n of 3 or more also n - 1 and 0" (02, N1)
pub record Neighbours (L : Layout) (i j : ℕ) : Type 0 where
  pub pair : Pair L i j
  pub next : (j ≡ i + 1) ⊎ ((3 ≤ L.n) × (i + 1 ≡ L.n) × (j ≡ 0))

-- "the least of 2t / gcd(p_i - p_j, t) - 1" over the pairs of a relation
pub record Capability (L : Layout) (R : ℕ → ℕ → Type 0) (x : ℕ) : Type 0 where
  pub i : ℕ
  pub j : ℕ
  pub related : R i j
  pub value : x ≡ pair_number L i j - 1

-- the number of nonzero symbols of a block
unfoldable pub weight : Layout → List ℕ → ℕ
weight L w = length (keep (λ c. not (eqb (at w c) 0)) (places L))

-- the weights of the nonzero codewords
pub record NonzeroWeight (L : Layout) (x : ℕ) : Type 0 where
  pub word : List ℕ
  pub codeword : Codeword L word
  pub value : x ≡ weight L word
  pub nonzero : x ≢ 0

-- two sections have equal shifts
pub record EqualShifts (L : Layout) : Type 0 where
  pub i : ℕ
  pub j : ℕ
  pub pair : Pair L i j
  pub equal : L.shift i ≡ L.shift j

-- the ruler rule: "all differences p_i - p_j mod t (i, j distinct) are distinct"
pub record Ruler (L : Layout) : Type 0 where
  pub rule : (i j k l : ℕ) → Pair L i j → Pair L k l →
      (L.shift i + L.t - L.shift j) % L.t ≡ (L.shift k + L.t - L.shift l) % L.t → (i ≡ k) × (j ≡ l)

-- "check places; pair figure; neighbour figure; distance"
pub record Figures (L : Layout) (parity pair neighbour distance : ℕ) : Type 0 where
  pub parity_places : (l : List ℕ) × (Lists (Parity L) l × (length l ≡ parity))
  pub pair_figure : Least (Capability L (Pair L)) pair
  pub neighbour_figure : Least (Capability L (Neighbours L)) neighbour
  pub distance_is : Least (NonzeroWeight L) distance
