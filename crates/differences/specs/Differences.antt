-- The differences of the ruler rule, and what a table of marks holds while they are gone through, pair by pair.
-- Main definitions: difference_of, Marked, KeepsRule.
use Rattle.std.specs.Prelude.{◌≡◌, ◌⊎◌, ◌≢◌, Bool, true, false, List, ℕ, ◌+◌, ◌-◌, ◌%◌, ◌≤◌, ◌<◌, length, get_or}
use Rattle.plan.specs.Layout.{layout}
use Rattle.code.specs.Figures.{Ruler}

-- (p_i - p_j) mod t
unfoldable pub difference_of : ℕ → List ℕ → ℕ → ℕ → ℕ
difference_of t s i j = (get_or s i 0 + t - get_or s j 0) % t

-- of n sections, the pair k, l comes before the pair i, j
pub record Before (n i j k l : ℕ) : Type 0 where
  pub differ : k ≢ l
  pub first : k < n
  pub second : l < n
  pub before : (k < i) ⊎ ((k ≡ i) × (l < j))

pub record Met (n t : ℕ) (s : List ℕ) (i j d : ℕ) : Type 0 where
  pub k : ℕ
  pub l : ℕ
  pub pair : Before n i j k l
  pub value : difference_of t s k l ≡ d

-- the differences before the pair i, j are distinct, and exactly these are marked
pub record Marked (n t : ℕ) (s : List ℕ) (i j : ℕ) (marks : List ℕ) : Type 0 where
  pub long : t ≤ length marks
  pub marked : (k l : ℕ) → Before n i j k l → get_or marks (difference_of t s k l) 0 ≢ 0
  pub met : (d : ℕ) → get_or marks d 0 ≢ 0 → Met n t s i j d
  pub distinct : (k l k' l' : ℕ) → Before n i j k l → Before n i j k' l' → difference_of t s k l ≡ difference_of t s k' l' → (k ≡ k') × (l ≡ l')

-- the answer of one mark
pub record Fresh (t : ℕ) (s : List ℕ) (i j : ℕ) (marks after : List ℕ) (r : Bool) : Type 0 where
  pub goes_on : (n : ℕ) → i < n → j < n → Marked n t s i j marks → r ≡ true → Marked n t s i (j + 1) after
  pub stops : (n : ℕ) → i < n → j < n → Marked n t s i j marks → r ≡ false → ¬ (Ruler (layout n t s))

-- the answer of a row of marks
pub record RowDone (n t : ℕ) (s : List ℕ) (i : ℕ) (after : List ℕ) (r : Bool) : Type 0 where
  pub goes_on : r ≡ true → Marked n t s (i + 1) 0 after
  pub stops : r ≡ false → ¬ (Ruler (layout n t s))

-- the test of the rule
pub record KeepsRule (n t : ℕ) (s : List ℕ) (r : Bool) : Type 0 where
  pub keeps : r ≡ true → Ruler (layout n t s)
  pub breaks : r ≡ false → ¬ (Ruler (layout n t s))
