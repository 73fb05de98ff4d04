-- Marks over a stretch of places: that none is set in it or from a place on, and the ones of the first bytes.
-- The number of marked places of a stretch is `mark_count` (code/specs/Marks.antt).
use Rattle.std.specs.Prelude.{Bool, List, ℕ, ◌-◌, ◌*◌, eqb, length, get_or}
use Rattle.std.specs.Int.Count.{ones}
use Rattle.math.specs.Members.{up_to}
use Rattle.math.specs.Sums.{sum_over}
use Rattle.code.specs.Marks.{mark_count}

-- none of the k places from a on is marked
abbrev pub none_in : List ℕ → ℕ → ℕ → Bool
none_in m a k = eqb (mark_count m a k) 0

-- no bit of the marks is 1 from place a on
unfoldable pub none_from : List ℕ → ℕ → Bool
none_from m a = none_in m a (8 * length m - a)

-- the number of ones in the first k mark bytes
unfoldable pub ones_of : List ℕ → ℕ → ℕ
ones_of m k = sum_over (up_to k) (λ i. ones (get_or m i 0))
