-- The condition of the powers (01, "Families and figures").
use Rattle.std.specs.Prelude.{Bool, ◌&&◌, ℕ, ◌-◌, leb, eqb}
use Rattle.math.specs.Gcd.{gcd}

-- "needs n from 3 to t, q at least 2, t sharing no factor with q nor with q - 1"
unfoldable pub powers_need : ℕ → ℕ → ℕ → Bool
unfolding gcd
powers_need n t q = leb 3 n && leb n t && leb 2 q && eqb (gcd t q) 1 && eqb (gcd t (q - 1)) 1
