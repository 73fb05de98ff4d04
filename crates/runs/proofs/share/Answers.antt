-- `share` meets its contract. Assumes nothing.
use mathlib.Core.Path.{◌≡◌}
use Prim.Native.Nat.{ℕ, ◌≤◌, ◌<◌}
use native.Mathlib.Omega.{arith}
use Rattle.math.specs.Gcd.{gcd}
use Rattle.math.proofs.GcdLaws.{gcd_pos, gcd_le}
use Rattle.runs.proofs.share.Goals as goal

-- only 1 divides 1
gcd-one : (a : ℕ) {g : ℕ} → g ≡ 1 → 1 ≡ gcd a g
gcd-one a {g} e =
    let some : 0 < gcd a g = gcd_pos a {b = g} (omega arith) in
    let most : gcd a g ≤ g = gcd_le a {b = g} (omega arith) in
    omega arith

pub returns-then-g-eq1 : goal.returns-then-g-eq1
returns-then-g-eq1 c = gcd-one _ (omega arith)
