-- The greatest common divisor. `IsGcd` and `IsGcdAll` say what it is; `gcd` and `gcd_all` compute it (Euclid). `gap` is a difference without its sign.
-- That each is what it is said to be stands in proofs/Gcd, all other laws in proofs/GcdLaws.
use Rattle.std.specs.Prelude.{List, [], ◌∷◌, ℕ, zero, suc, ◌+◌, ◌-◌, ◌%◌}
use Rattle.std.specs.Int.{◌∣◌}
use Rattle.math.specs.Members.{◌∈◌}

-- g divides both, and every common divisor divides g
pub record IsGcd (a b g : ℕ) : Type 0 where
  pub left : g ∣ a
  pub right : g ∣ b
  pub greatest : (d : ℕ) → d ∣ a → d ∣ b → d ∣ g

-- Euclid's remainders, in at most `fuel` steps
unfoldable pub euclid : ℕ → ℕ → ℕ → ℕ
euclid zero a b = a
euclid (suc fuel) a zero = a
euclid (suc fuel) a (suc b) = euclid fuel (suc b) (a % suc b)

unfoldable pub gcd : ℕ → ℕ → ℕ
unfolding euclid
gcd a b = euclid (suc b) a b

-- g divides t and every number of the list, and every number that divides all these divides g
pub record IsGcdAll (t : ℕ) (l : List ℕ) (g : ℕ) : Type 0 where
  pub base : g ∣ t
  pub each : (x : ℕ) → x ∈ l → g ∣ x
  pub greatest : (d : ℕ) → d ∣ t → ((x : ℕ) → x ∈ l → d ∣ x) → d ∣ g

-- the greatest common divisor of t and all numbers of the list
unfoldable pub gcd_all : ℕ → List ℕ → ℕ
unfolding gcd
gcd_all t [] = t
gcd_all t (x ∷ xs) = gcd x (gcd_all t xs)

-- the difference of two numbers, whichever is the larger
unfoldable pub gap : ℕ → ℕ → ℕ
gap a b = (a - b) + (b - a)
