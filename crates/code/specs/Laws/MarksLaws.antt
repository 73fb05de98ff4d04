-- Marks as bits: the erasures that they say, setting and clearing one bit, and counting.
use Rattle.std.specs.Prelude.{◌≡◌, ◌≢◌, List, ℕ}
use Rattle.std.proofs.Math.Dec.{eqb}
use Rattle.math.specs.Members.{from, keep}
use Rattle.code.specs.Marks.{mark}

-- ---- one bit set or cleared

-- m' are the marks m with bit b at place c
pub record Puts (m : List ℕ) (c b : ℕ) (m' : List ℕ) : Type 0 where
  pub here : mark m' c ≡ b
  pub others : (d : ℕ) → d ≢ c → mark m' d ≡ mark m d

-- the marked places among the k from a on, rising
unfoldable pub places_of : List ℕ → ℕ → ℕ → List ℕ
places_of m a k = keep (λ c. eqb (mark m c) 1) (from a k)
