-- The place of a section on a row: its offset, and the row that it meets beside that one.
use Rattle.std.specs.Prelude.{◌≡◌, ℕ, ◌≤◌, ◌<◌}
use Rattle.plan.specs.Layout.{bottom_row}

-- the place on row r of a section with shift p has offset k, and b is its other row
pub record Beside (t p r k b : ℕ) : Type 0 where
  pub of_top : r < t → (k ≡ r) × (b ≡ bottom_row t p r)
  pub of_bottom : t ≤ r → (k ≡ b) × (b < t) × (bottom_row t p b ≡ r)
