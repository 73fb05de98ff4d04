-- A plan's shifts as a list: the array that holds them, and their differences to the first.
use Rattle.std.specs.Prelude.{List, ◌++◌, map, ℕ, ◌-◌, length, get_or, replicate}
use Rattle.math.specs.Gcd.{gap}
use Rattle.bounds.specs.Bounds.{max_n}

-- the array of a plan: the shifts, then zeros
unfoldable pub padded : List ℕ → List ℕ
padded shifts = shifts ++ replicate (max_n - length shifts) 0

-- p_j - p_0 for each shift, without the sign
unfoldable pub gaps : List ℕ → List ℕ
unfolding gap
gaps shifts = map (λ p. gap p (get_or shifts 0 0)) shifts
