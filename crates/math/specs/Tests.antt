-- Tests as Bools: the halves of an `&&`, and a test at every number below a bound, which antt computes.
use Rattle.std.specs.Prelude.{◌≡◌, refl, Bool, true, false, ◌&&◌, ℕ, zero, suc, ◌<◌}
use Rattle.std.proofs.Common.{sym, subst, true≢false, arith}
use Rattle.std.proofs.Math.Logic.{by_cases}
use Rattle.std.proofs.Math.Decide.{ℕ_discrete}

pub and_left : (a b : Bool) → (a && b) ≡ true → a ≡ true
and_left true b e = refl
and_left false b e = e

pub and_right : (a b : Bool) → (a && b) ≡ true → b ≡ true
and_right true b e = e
and_right false b e = absurd (true≢false (sym e))

pub no_right : (a : Bool) → (a && false) ≡ false
no_right true = refl
no_right false = refl

-- the test passes at each number below k
abbrev pub every : ℕ → (ℕ → Bool) → Bool
every zero f = true
every (suc k) f = f k && every k f

pub every_at : (k : ℕ) (f : ℕ → Bool) → every k f ≡ true → (i : ℕ) → i < k → f i ≡ true
every_at zero f e i h = absurd (omega arith)
every_at (suc k) f e i h =
    by_cases (ℕ_discrete i k) (λ same. subst (λ (m : ℕ). f m ≡ true) (sym same) (and_left (f k) (every k f) e))
    (λ other. every_at k f (and_right (f k) (every k f) e) i (omega arith))
