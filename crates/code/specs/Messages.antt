-- Parity and message places (01: check places and data places), and what it is to carry a message (01: data).
use Rattle.std.specs.Prelude.{◌≡◌, ◌↔◌, List, map, ℕ}
use Rattle.math.specs.Members.{◌∈◌, Rising}
use Rattle.plan.specs.Layout.{Layout}
use Rattle.code.specs.Places.{places}
use Rattle.code.specs.Codewords.{at, Codeword}
use Rattle.code.specs.Cycles.{Lowest}

-- "A place is a check place exactly when no ring has it as its lowest place."
pub record Parity (L : Layout) (c : ℕ) : Type 0 where
  pub inside : c ∈ places L
  pub lowest_of_none : ¬ (Lowest L (places L) c)

-- "Other places carry data, in rising order."
pub record Message (L : Layout) (c : ℕ) : Type 0 where
  pub inside : c ∈ places L
  pub lowest_of_some : Lowest L (places L) c

-- the rising list of exactly the numbers with a property
pub record Lists (P : ℕ → Type 0) (l : List ℕ) : Type 0 where
  pub rising : Rising l
  pub exact : (c : ℕ) → (c ∈ l) ↔ P c

-- a codeword carries a message: symbol i of the message stands at the i-th message place
pub record Carries (L : Layout) (w message : List ℕ) : Type 0 where
  pub codeword : Codeword L w
  pub where_to : List ℕ
  pub message_places : Lists (Message L) where_to
  pub symbols : message ≡ map (at w) where_to
