-- The fetch list (document 02, N2): the places to fetch so that the marks that are left hold no cycle (01: ring).
-- Main definitions: FetchList, FetchBits.
use Rattle.std.specs.Prelude.{◌≡◌, not, List, ℕ, ◌≤◌, length}
use Rattle.math.specs.Members.{◌∈◌, is_in, keep}
use Rattle.plan.specs.Layout.{Layout}
use Rattle.code.specs.Marks.{BitsOf}
use Rattle.code.specs.Cycles.{Cycle, Lowest}
use Rattle.code.specs.Messages.{Lists}

-- the places of E that are not in G
unfoldable pub less : List ℕ → List ℕ → List ℕ
less E G = keep (λ c. not (is_in c G)) E

-- no cycle has all its places in E
abbrev pub NoCycle : Layout → List ℕ → Type 0
NoCycle L E = (l : List ℕ) → ¬ (Cycle L E l)

-- F is the fetch list of the erasures E
pub record FetchList (L : Layout) (E F : List ℕ) : Type 0 where
  -- "list those marked places that are the lowest of some ring of marked places, rising"
  pub list : Lists (λ c. (c ∈ E) × Lowest L E c) F
  -- "Taking the list's marks away must leave marks that hold no ring"
  pub leaves : NoCycle L (less E F)
  -- "and no set of fewer places does that": whichever places G are taken, marked or not
  pub fewest : (G : List ℕ) → NoCycle L (less E G) → length F ≤ length G

-- "The list comes back as mark bits of its own, as long as the marks": k bytes m that say the fetch list of E, and the number of its places
pub record FetchBits (L : Layout) (E : List ℕ) (k : ℕ) (m : List ℕ) (count : ℕ) : Type 0 where
  pub list : List ℕ
  pub fetch : FetchList L E list
  pub long : length m ≡ k
  pub bits : BitsOf list m
  pub number : count ≡ length list
