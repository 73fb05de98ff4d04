-- A place with its section and offset, as a walk carries them.
use Rattle.std.specs.Prelude.{◌≡◌, List, ℕ, ◌+◌, ◌*◌, ◌≤◌, ◌<◌, get_or}

-- place c is symbol k of section j
pub record Stands (t c j k : ℕ) : Type 0 where
  pub whole : c ≡ j * t + k
  pub within : k < t

-- a scan that has come to place c knows of a section j that begins at or before it: its first place, the place after its last, its shift
pub record Reached (n t : ℕ) (shifts : List ℕ) (c j begin end p : ℕ) : Type 0 where
  pub inside : j < n
  pub begins : begin ≡ j * t
  pub ends : end ≡ begin + t
  pub shift : p ≡ get_or shifts j 0
  pub passed : begin ≤ c
