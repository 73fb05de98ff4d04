-- Connected rows and components (01: joined rows, joined groups), and the component that shows an inconsistency (01: crossed).
use Rattle.std.specs.Prelude.{◌↔◌, ◌≢◌, List, ℕ, ◌*◌, ◌≤◌, ◌<◌}
use Rattle.math.specs.Members.{◌∈◌, Rising}
use Rattle.math.specs.Sums.{xor_over}
use Rattle.plan.specs.Layout.{Layout}
use Rattle.code.specs.Places.{Meets}
use Rattle.code.specs.Codewords.{at, syndrome, blank}

-- "two rows are joined if a chain of marked places leads from one to the other"
pub data Connected (L : Layout) (E : List ℕ) : ℕ → ℕ → Type 0 where
  here : {r : ℕ} → Connected L E r r
  along : {r s u : ℕ} (c : ℕ) → Connected L E r s → c ∈ E → Meets L c s → Meets L c u → Connected L E r u

-- a joined group, its rows rising: exactly the rows connected with its first. "A row met by no mark is a group by itself."
pub record Component (L : Layout) (E : List ℕ) (l : List ℕ) : Type 0 where
  pub rising : Rising l
  pub exact : (r : ℕ) → (r ∈ l) ↔ ((r < 2 * L.t) × Connected L E (at l 0) r)

-- the row sums over unmarked places, added up over the rows ("a place with both rows in the group enters twice")
unfoldable pub imbalance : Layout → List ℕ → (ℕ → ℕ) → List ℕ → ℕ
imbalance L E v l = xor_over l (syndrome L (blank E v))

-- "Of the joined groups whose row sums over unmarked places don't add up to 0 the one with the lowest row is given"
pub record Inconsistent (L : Layout) (E : List ℕ) (v : ℕ → ℕ) (l : List ℕ) : Type 0 where
  pub component : Component L E l
  pub unbalanced : imbalance L E v l ≢ 0
  pub lowest : (m : List ℕ) → Component L E m → imbalance L E v m ≢ 0 → at l 0 ≤ at m 0
