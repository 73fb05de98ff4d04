-- Marks as they are lent: bits, one per place.
-- 01: "Marks are bits, one per place, place c in byte c / 8 (whole part), bit c mod 8, lowest bit first; spare bits of the last byte are 0."
use Rattle.std.specs.Prelude.{◌≡◌, ◌↔◌, List, ℕ, ◌+◌, ◌*◌, ◌/◌, ◌%◌, ◌≤◌, ◌<◌, eqb, length, get_or}
use Rattle.math.specs.Members.{◌∈◌, keep, from}
use Rattle.math.specs.Sums.{sum_over}
use Rattle.plan.specs.Layout.{Layout}
use Rattle.code.specs.Places.{places}
use Rattle.code.specs.Codewords.{bit_of}

-- the bit of place c
unfoldable pub mark : List ℕ → ℕ → ℕ
mark m c = bit_of (c % 8) (get_or m (c / 8) 0)

-- the number of mark bytes for n × t places
unfoldable pub mark_bytes : Layout → ℕ
mark_bytes L = (L.n * L.t + 7) / 8

-- every spare bit is 0
unfoldable pub NoSpare : Layout → List ℕ → Type 0
NoSpare L m = (c : ℕ) → L.n * L.t ≤ c → c < 8 * length m → mark m c ≡ 0

-- the erasures that the bits say: the marked places, rising
unfoldable pub erasures : Layout → List ℕ → List ℕ
erasures L m = keep (λ c. eqb (mark m c) 1) (places L)

-- marks whose bits say exactly the places of a list: each other bit is 0, a spare one too
pub record BitsOf (l m : List ℕ) : Type 0 where
  pub bytes : (i : ℕ) → get_or m i 0 < 256
  pub exact : (c : ℕ) → c < 8 * length m → (mark m c ≡ 1) ↔ (c ∈ l)

-- the number of marked places among the k from a on
unfoldable pub mark_count : List ℕ → ℕ → ℕ → ℕ
mark_count m a k = sum_over (from a k) (λ c. mark m c)
