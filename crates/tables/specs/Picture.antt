-- What the row tables hold. A block with erasures is pictured by two tables with an entry for each row: its sum, and the tally of the erasures
-- left on it: 1,024 for each, and its section. A row has at most 32, whose sections add up to less than 1,024: the tally says how many they are
-- and, of one that is left alone, the section, by which the row says the place.
use Rattle.std.specs.Prelude.{◌≡◌, ◌≢◌, List, ℕ, ◌+◌, ◌*◌, ◌/◌, ◌<◌, length, get_or}
use Rattle.math.specs.Members.{◌∈◌}
use Rattle.math.specs.Xor.{◌⊕◌}
use Rattle.math.specs.Sums.{sum_over}
use Rattle.plan.specs.Layout.{Layout}
use Rattle.code.specs.Places.{places}
use Rattle.code.specs.Codewords.{syndrome}
use Rattle.code.specs.Rounds.{on_row}
use Rattle.code.specs.Laws.Forest.{Erased}

-- what each erasure on a row adds to its tally, beside its section
abbrev pub tally_unit : ℕ
tally_unit = 1024

-- what a place adds to the tally of each of its rows
unfoldable pub weight : ℕ → ℕ → ℕ
weight t c = tally_unit + c / t

-- how many erasures are left on row r, by its tally
unfoldable pub counts : List ℕ → ℕ → ℕ
counts tally r = get_or tally r 0 / tally_unit

-- a table tallies erasures E on each row
pub record Counted (L : Layout) (E tally : List ℕ) : Type 0 where
  pub long : length tally ≡ 2 * L.t
  pub erased : Erased L E
  pub tallies : (r : ℕ) → r < 2 * L.t → get_or tally r 0 ≡ sum_over (on_row L E r) (weight L.t)

-- the tables picture erasures E and a block u, which may hold anything at the erasures
pub record Picture (L : Layout) (E : List ℕ) (u : ℕ → ℕ) (sum tally : List ℕ) : Type 0 where
  pub sum_long : length sum ≡ 2 * L.t
  pub byte : (c : ℕ) → u c < 256
  pub sums : (r : ℕ) → r < 2 * L.t → get_or sum r 0 ≡ syndrome L u r
  pub counted : Counted L E tally

-- the tables picture some block with erasures: what the code needs to go by them
pub record Pictured (L : Layout) (sum tally : List ℕ) : Type 0 where
  pub E : List ℕ
  pub u : ℕ → ℕ
  pub picture : Picture L E u sum tally

-- From erasures E and block u to erasures F and block x, the k places in a list being the ones settled, and the k values what was added there:
-- every codeword that agreed at the start agrees now.
pub record Settles (L : Layout) (E : List ℕ) (u : ℕ → ℕ) (F : List ℕ) (x : ℕ → ℕ) (place value : List ℕ) (k : ℕ) : Type 0 where
  pub fewer : (c : ℕ) → c ∈ F → c ∈ E
  pub kept : (c : ℕ) → ¬ (c ∈ E) → x c ≡ u c
  pub waits : (c : ℕ) → c ∈ F → x c ≡ u c
  pub forced : (w : ℕ → ℕ) → ((r : ℕ) → r < 2 * L.t → syndrome L w r ≡ 0)
      → ((c : ℕ) → c ∈ places L → ¬ (c ∈ E) → w c ≡ u c) → (c : ℕ) → c ∈ places L → ¬ (c ∈ F) → w c ≡ x c
  pub listed : (c : ℕ) → c ∈ E → ¬ (c ∈ F) → (i : ℕ) × (i < k) × (get_or place i 0 ≡ c)
  pub settled : (i : ℕ) → i < k → (get_or place i 0 ∈ E) × (¬ (get_or place i 0 ∈ F)) × (x (get_or place i 0) ≡ u (get_or place i 0) ⊕ get_or value i 0)
  pub once : (i j : ℕ) → i < j → j < k → get_or place i 0 ≢ get_or place j 0

-- no row has exactly one erasure left
unfoldable pub Stuck : Layout → List ℕ → Type 0
Stuck L E = (r : ℕ) → r < 2 * L.t → length (on_row L E r) ≢ 1
