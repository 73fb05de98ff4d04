-- Roots: the rows that are their own label, one of each component.
use Rattle.std.specs.Prelude.{Bool, List, ℕ, eqb}
use Rattle.math.specs.Members.{keep}
use Rattle.plan.specs.Layout.{Layout}
use Rattle.code.specs.Places.{rows}
use Rattle.code.specs.Laws.Labels.{label}

-- row r is the lowest of its component
unfoldable pub root : Layout → List ℕ → ℕ → Bool
root L E r = eqb (label L E r) r

-- the roots, rising
unfoldable pub roots : Layout → List ℕ → List ℕ
roots L E = keep (root L E) (rows L)
