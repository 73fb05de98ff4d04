-- A walk over the marked places from a place on, a word of marks at a time, lowest place first; what is done at each place is the caller's.
use Rattle.std.specs.Prelude.{◌≡◌, List, ℕ, ◌+◌, ◌≤◌, ◌<◌}
use Rattle.code.specs.Marks.{mark}
use Rattle.tables.specs.Spots.{Reached}
use Rattle.bits.specs.Words.{Word}

-- P, which says that the places below one are passed, goes on over places that are not marked, or are below a
abbrev pub Skips : List ℕ → ℕ → (ℕ → Type 0) → Type 0
Skips marks a P = (c c' : ℕ) → P c → c ≤ c' → ((d : ℕ) → c ≤ d → d < c' → mark marks d ≡ 1 → a ≤ d → ⊥) → P c'

-- In the word of marks from place c on: every place below `next` is passed, and the bits of `rest` are the marked places from there on;
-- the section is one that begins at or before `next`.
pub record WordWalk (P : ℕ → Type 0) (n t : ℕ) (shifts marks : List ℕ) (a c rest j begin end p : ℕ) : Type 0 where
  pub next : ℕ
  pub passed : P next
  pub reached : Reached n t shifts next j begin end p
  pub late : a ≤ next
  pub from_word : c ≤ next
  pub in_word : next ≤ c + 64
  pub word : Word marks next c rest
