-- The line of a turn put on a lent sheet.
-- Main definitions: Put, Fits, Placed.
use Rattle.std.specs.Prelude.{◌≡◌, List, ℕ, ◌+◌, ◌^◌, ◌≤◌, ◌<◌, length, take}
use Rattle.pieces.specs.Pieces.{Appends}
use Rattle.refusals.specs.declared.Refusal.{Refusal}
use Rattle.putting.specs.declared.Phase.{Phase}
use Rattle.putting.specs.declared.Phase.TheVariants.{Going, Closed, Full}
use Rattle.turns.specs.declared.Turn.{Turn}
use Rattle.turns.specs.declared.Turn.TheVariants.{Wait, End, Stop, On, Bad}

-- a line was put on the sheet, or there is no room for it and nothing was written
pub data Put (l : List ℕ) (count : ℕ) (sheet : List ℕ) (to : ℕ) (phase : Phase) (sheet' : List ℕ) (to' : ℕ) (phase' : Phase) : Type 0 where
  fits : phase' ≡ phase → Appends sheet to (take count l) sheet' to' → Put l count sheet to phase sheet' to' phase'
  no_room : phase' ≡ Full → to' ≡ to → sheet' ≡ sheet → length sheet < to + count → Put l count sheet to phase sheet' to' phase'

-- a turn from this place of a job: its line is a part of a line buffer of this length, and the place after it is a number of 64 bits
pub record Fits (turn : Turn) (at room : ℕ) : Type 0 where
  pub on : (used count : ℕ) → turn ≡ On used count → (count ≤ room) × (at + used < 2 ^ 64)
  pub ended : (count : ℕ) → turn ≡ End count → count ≤ room
  pub stopped : (x : Refusal) (count : ℕ) → turn ≡ Stop x count → count ≤ room

-- the line of a turn was put: after a command the job goes on behind its bytes, any other line is the last; with no line the sheet is as it was
pub data Placed (turn : Turn) (at : ℕ) (l sheet : List ℕ) (to : ℕ) (sheet' : List ℕ) (at' to' : ℕ) (phase' : Phase) : Type 0 where
  on : (used count : ℕ) → turn ≡ On used count → at' ≡ at + used → Put l count sheet to Going sheet' to' phase' → Placed turn at l sheet to sheet' at' to' phase'
  ended : (count : ℕ) → turn ≡ End count → at' ≡ at → Put l count sheet to Closed sheet' to' phase' → Placed turn at l sheet to sheet' at' to' phase'
  stopped : (x : Refusal) (count : ℕ) → turn ≡ Stop x count → at' ≡ at → Put l count sheet to Closed sheet' to' phase' → Placed turn at l sheet to sheet' at' to' phase'
  waits : turn ≡ Wait → at' ≡ at → to' ≡ to → phase' ≡ Full → sheet' ≡ sheet → Placed turn at l sheet to sheet' at' to' phase'
  bad : (x : Refusal) → turn ≡ Bad x → at' ≡ at → to' ≡ to → phase' ≡ Full → sheet' ≡ sheet → Placed turn at l sheet to sheet' at' to' phase'
