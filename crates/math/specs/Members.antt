-- Lists of numbers as finite sets: membership, ranges, selection, rising lists.
-- Definitions only; their laws are in MembersLaws.
use Rattle.std.specs.Prelude.{Bool, false, cond, not, ◌||◌, ℕ, zero, suc, ◌<◌, eqb}
use mathlib.Core.List.{List, [], ◌∷◌, Memᴰ}

infix 40 ◌∈◌
-- c is one of the list's numbers
abbrev pub ◌∈◌ : ℕ → List ℕ → Type 0
c ∈ l = Memᴰ c l

-- the same as a test
unfoldable pub is_in : ℕ → List ℕ → Bool
is_in c [] = false
is_in c (d ∷ ds) = eqb c d || is_in c ds

-- the k numbers from a on
unfoldable pub from : ℕ → ℕ → List ℕ
from a zero = []
from a (suc k) = a ∷ from (suc a) k

-- 0 .. n - 1
unfoldable pub up_to : ℕ → List ℕ
unfolding from
up_to n = from 0 n

-- the numbers of a list that pass a test, in the list's order
unfoldable pub keep : (ℕ → Bool) → List ℕ → List ℕ
keep p [] = []
keep p (c ∷ cs) = cond (p c) (c ∷ keep p cs) (keep p cs)

-- the list without c
unfoldable pub without : ℕ → List ℕ → List ℕ
unfolding keep
without c l = keep (λ d. not (eqb d c)) l

-- each number is below all that follow it
pub data Rising : List ℕ → Type 0 where
  rising_none : Rising []
  rising_more : {c : ℕ} {cs : List ℕ} → ((d : ℕ) → d ∈ cs → c < d) → Rising cs → Rising (c ∷ cs)

-- no number stands twice
pub data Distinct : List ℕ → Type 0 where
  distinct_none : Distinct []
  distinct_more : {c : ℕ} {cs : List ℕ} → ¬ (c ∈ cs) → Distinct cs → Distinct (c ∷ cs)
