-- Marked places in a row, whose top rows and bottom rows follow on each other: they are noted in two sweeps over the tallies.
use Rattle.std.specs.Prelude.{◌≡◌, List, ℕ, ◌+◌, ◌≤◌, ◌<◌}
use Rattle.plan.specs.Layout.{bottom_row}
use Rattle.tables.specs.Picture.{tally_unit}
use Rattle.tables.specs.Sweeps.{Swept}

-- the change at each of the places: weight w is added
abbrev pub added : ℕ → ℕ → ℕ → ℕ
added w i x = x + w

-- m offsets from k on of a section with shift p: their bottom rows follow on each other
pub record Stretch (t p k m : ℕ) : Type 0 where
  pub within : k + m ≤ t
  pub straight : (i : ℕ) → i < m → bottom_row t p (k + i) ≡ bottom_row t p k + i

-- what noting them does
pub record Run (t p j k m : ℕ) (tally tally' : List ℕ) : Type 0 where
  pub swept : Swept (added (tally_unit + j)) k (bottom_row t p k) m tally tally'
