-- Cycles (01: rings) and the places that are the lowest of one.
use Rattle.std.specs.Prelude.{◌≡◌, List, ℕ, ◌+◌, ◌-◌, ◌*◌, ◌≤◌, ◌<◌, length}
use Rattle.math.specs.Members.{◌∈◌}
use Rattle.plan.specs.Layout.{Layout, top, bottom}
use Rattle.code.specs.Codewords.{at}

-- "A ring is an even number z of distinct places, at least 2": z is 2 × half, all of them from E.
-- "Place 0 and 1 of the list share a top row, 1 and 2 a bottom row, and so on in turn, the last and the first sharing a bottom row.
-- It passes no row twice." "It is written from its lowest place."
pub record Cycle (L : Layout) (E : List ℕ) (l : List ℕ) : Type 0 where
  pub half : ℕ
  pub even : length l ≡ 2 * half
  pub least : 1 ≤ half
  pub inside : (i : ℕ) → i < length l → at l i ∈ E
  pub distinct : (i j : ℕ) → i < length l → j < length l → at l i ≡ at l j → i ≡ j
  pub share_top : (i : ℕ) → i < half → top L (at l (2 * i)) ≡ top L (at l (2 * i + 1))
  pub share_bottom : (i : ℕ) → i + 1 < half → bottom L (at l (2 * i + 1)) ≡ bottom L (at l (2 * i + 2))
  pub close : bottom L (at l (length l - 1)) ≡ bottom L (at l 0)
  pub tops_once : (i j : ℕ) → i < half → j < half → top L (at l (2 * i)) ≡ top L (at l (2 * j)) → i ≡ j
  pub bottoms_once : (i j : ℕ) → i < half → j < half → bottom L (at l (2 * i + 1)) ≡ bottom L (at l (2 * j + 1)) → i ≡ j
  pub lowest : (i : ℕ) → i < length l → at l 0 ≤ at l i

-- c is the lowest place of some cycle of places of E
pub record Lowest (L : Layout) (E : List ℕ) (c : ℕ) : Type 0 where
  pub cycle : List ℕ
  pub is_cycle : Cycle L E cycle
  pub first : at cycle 0 ≡ c
