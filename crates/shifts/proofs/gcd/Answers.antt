use Prim.Native.Nat.{ℕ}
use Rattle.math.specs.Gcd.{gcd}
use Rattle.math.proofs.GcdLaws.{gcd_step, gcd_zero_right}
use mathlib.Core.Path.{sym, ◌∙◌, ap}
use native.Mathlib.Nat.{mod-lt}
use native.Mathlib.Omega.{arith}
use Rattle.shifts.proofs.gcd.Goals as goal

pub loop-y-smaller : goal.loop-y-smaller
loop-y-smaller c = mod-lt _ (omega arith)

pub loop-y-preserved : goal.loop-y-preserved
loop-y-preserved c = sym (gcd_step _ _) ∙ c.loop-y.invariant

pub returns : goal.returns
returns c = sym (ap (λ (y : ℕ). gcd c.loop-y.x y) c.loop-y-test.false ∙ gcd_zero_right _) ∙ c.loop-y.invariant
