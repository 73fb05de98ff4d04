-- Places noted one after the other, in rising order: the table tallies those of a list below the place that has been come to.
use Rattle.std.specs.Prelude.{◌≡◌, List, ℕ, ◌+◌, ◌*◌, ◌≤◌, ◌<◌, leb, ltb, length, get_or, set}
use Rattle.math.specs.Members.{◌∈◌, keep}
use Rattle.bounds.specs.Bounds.{max_n, max_t}
use Rattle.plan.specs.Layout.{layout, bottom_row}
use Rattle.plan.specs.GoodPlan.{GoodPlan}
use Rattle.code.specs.Laws.Forest.{Erased}
use Rattle.tables.specs.Picture.{Counted, tally_unit}
use Rattle.tables.specs.Spots.{Stands}

-- the erasures from place a on
unfoldable pub from_place : ℕ → List ℕ → List ℕ
from_place a E = keep (λ c. leb a c) E

-- those below place i
unfoldable pub below : ℕ → List ℕ → List ℕ
below i E = keep (λ c. ltb c i) E

-- the table tallies those of E below place c
pub record Seen (n t : ℕ) (shifts E : List ℕ) (c : ℕ) (tally : List ℕ) : Type 0 where
  pub counted : Counted (layout n t shifts) (below c E) tally

-- every place from c to e is of E
abbrev pub All : List ℕ → ℕ → ℕ → Type 0
All E c e = (d : ℕ) → c ≤ d → d < e → d ∈ E

-- the table tallies places below c of some list that goes on with all places from c to e
pub record Due (n t : ℕ) (shifts : List ℕ) (c e : ℕ) (tally : List ℕ) : Type 0 where
  pub good : GoodPlan n t shifts
  pub E : List ℕ
  pub erased : Erased (layout n t shifts) E
  pub all : All E c e
  pub seen : Seen n t shifts E c tally

-- those are noted, whatever the list
pub record Notes (n t : ℕ) (shifts : List ℕ) (c e : ℕ) (tally tally' : List ℕ) : Type 0 where
  pub notes : (E : List ℕ) → Erased (layout n t shifts) E → All E c e → Seen n t shifts E c tally → Seen n t shifts E e tally'

-- what noting place c, symbol k of section j, needs; p is the section's shift
pub record Ready (t p c j k : ℕ) (tally : List ℕ) : Type 0 where
  pub stands : Stands t c j k
  pub shift : p < t
  pub t_max : t ≤ max_t
  pub section : j < max_n
  pub long : length tally ≡ 2 * t
  pub room : (r : ℕ) → r < 2 * t → get_or tally r 0 + (tally_unit + max_n) ≤ 65536

-- what it does: stores at the top row, then at the bottom row
pub record Noted (t p j k : ℕ) (tally tally' : List ℕ) : Type 0 where
  pub tally₁ : List ℕ
  pub at_top : tally₁ ≡ set tally k (get_or tally k 0 + (tally_unit + j))
  pub at_bottom : tally' ≡ set tally₁ (bottom_row t p k) (get_or tally₁ (bottom_row t p k) 0 + (tally_unit + j))
