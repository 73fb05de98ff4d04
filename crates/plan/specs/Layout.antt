-- A plan as the theory sees it: its sections, t, and the shift of each section; places and rows as numbers.
use Rattle.std.specs.Prelude.{List, map, ℕ, ◌+◌, ◌-◌, ◌*◌, ◌/◌, ◌%◌, ◌<◌, get_or}
use Rattle.math.specs.Members.{◌∈◌, Rising, up_to}
use Rattle.math.specs.Gcd.{gcd_all, gap}

-- n sections of t symbols; `sections` are those that take part, rising: in a plan all of 0 .. n - 1
pub record Layout : Type 0 where
  pub n : ℕ
  pub t : ℕ
  pub sections : List ℕ
  pub shift : ℕ → ℕ

-- what the theorems ask of a layout; every plan that is not refused has it
pub record Valid (L : Layout) : Type 0 where
  pub positive : 0 < L.t
  pub rising : Rising L.sections
  pub inside : (j : ℕ) → j ∈ L.sections → j < L.n
  pub below : (j : ℕ) → j ∈ L.sections → L.shift j < L.t

-- the layout of n sections with these shifts: all sections take part, what stands past the n shifts influences nothing
unfoldable pub layout : ℕ → ℕ → List ℕ → Layout
layout n t shifts = record { n = n; t = t; sections = up_to n; shift = λ j. get_or shifts j 0 }

-- "Place c = j × t + k is symbol k of section j."
unfoldable pub place_of : ℕ → ℕ → ℕ → ℕ
place_of t j k = j * t + k

-- "It meets two rows: top row k, and bottom row t + ((k - p_j) mod t)." Here p_j is below t, so k + t - p_j is no less than 0.
unfoldable pub top_row : ℕ → ℕ
top_row k = k

unfoldable pub bottom_row : ℕ → ℕ → ℕ → ℕ
bottom_row t p k = t + (k + t - p) % t

-- the two rows of a place, by its number
unfoldable pub top : Layout → ℕ → ℕ
unfolding top_row
top L c = top_row (c % L.t)

unfoldable pub bottom : Layout → ℕ → ℕ
unfolding bottom_row
bottom L c = bottom_row L.t (L.shift (c / L.t)) (c % L.t)

-- "g the greatest common divisor of t and all p_j - p_0", the sign not counting: differences to the first section
-- (`gcd_all` is what its name says: `gcd_all_is`, beside its definition in math/specs/Gcd.antt)
unfoldable pub divisor : Layout → ℕ
divisor L = gcd_all L.t (map (λ j. gap (L.shift j) (L.shift (get_or L.sections 0 0))) L.sections)

-- "there are 2t - g check places": the others, n × t - (2t - g), carry the message
unfoldable pub message_count : Layout → ℕ
unfolding divisor
message_count L = L.n * L.t - (2 * L.t - divisor L)
