-- The places of a layout (in a plan all of 0 .. n × t - 1: `layout_places`), the rows that each meets, and matrix (1) of 002, which says the same.
-- 01, "Plan, place, row": "Place c = j × t + k is symbol k of section j. It meets two rows. There are 2t rows."
use Rattle.std.specs.Prelude.{◌≡◌, ◌⊎◌, Bool, cond, ◌||◌, List, ℕ, ◌+◌, ◌-◌, ◌*◌, ◌/◌, ◌%◌, eqb, ltb}
use Rattle.math.specs.Members.{is_in, up_to, keep}
use Rattle.math.specs.Sums.{only}
use Rattle.plan.specs.Layout.{Layout, top, bottom}

-- every place whose section takes part, rising
unfoldable pub places : Layout → List ℕ
places L = keep (λ c. is_in (c / L.t) L.sections) (up_to (L.n * L.t))

-- "There are 2t rows."
unfoldable pub rows : Layout → List ℕ
rows L = up_to (2 * L.t)

-- place c meets row r
abbrev pub Meets : Layout → ℕ → ℕ → Type 0
Meets L c r = (r ≡ top L c) ⊎ (r ≡ bottom L c)

-- the same as a test
unfoldable pub meets : Layout → ℕ → ℕ → Bool
meets L c r = eqb r (top L c) || eqb r (bottom L c)

-- CPM_t(p) of 002, II.B: "all the entries are zeros except those in positions (i', (i' + p) mod t)"
unfoldable pub cpm : ℕ → ℕ → ℕ → ℕ → ℕ
cpm t p i k = only (eqb k ((i + p) % t)) 1

-- matrix (1) of 002: row block 0 is CPM_t(0) in every column block, row block 1 is CPM_t(p_j) in column block j
unfoldable pub matrix : Layout → ℕ → ℕ → ℕ
matrix L r c =
    cond (ltb r L.t)
    (cpm L.t 0 r (c % L.t))
    (cpm L.t (L.shift (c / L.t)) (r - L.t) (c % L.t))
