-- What the functions below `figures` ask of two sections of a plan.
-- Main definition: TwoOf.
use Rattle.std.specs.Prelude.{List, ℕ, ◌≤◌, ◌<◌, length, get_or}
use Rattle.bounds.specs.Bounds.{max_t}

-- what is asked of two sections: they are there, and their shifts are below t
pub record TwoOf (t : ℕ) (s : List ℕ) (i j : ℕ) : Type 0 where
  pub first : i < length s
  pub second : j < length s
  pub first_below : get_or s i 0 < t
  pub second_below : get_or s j 0 < t
  pub t_most : t ≤ max_t
