-- Marks set and cleared: a stretch of places takes a bit.
use Rattle.std.specs.Prelude.{◌≡◌, ◌⊎◌, List, ℕ, ◌+◌, ◌≤◌, ◌<◌, length, get_or}
use Rattle.code.specs.Marks.{mark}

-- marks m' are m with the bits of k places from c on set to b, all others as before
pub record Marked (m : List ℕ) (c k b : ℕ) (m' : List ℕ) : Type 0 where
  pub long : length m' ≡ length m
  pub bytes : (i : ℕ) → get_or m' i 0 < 256
  pub these : (d : ℕ) → c ≤ d → d < c + k → mark m' d ≡ b
  pub others : (d : ℕ) → (d < c) ⊎ (c + k ≤ d) → mark m' d ≡ mark m d
