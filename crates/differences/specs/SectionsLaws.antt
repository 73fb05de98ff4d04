-- The shifts of a good plan: those of two sections, and the number of parity places by them.
-- Main results: two_of, parity_is.
use Rattle.std.specs.Prelude.{◌≡◌, List, ℕ, ◌-◌, ◌*◌, ◌<◌, take}
use Rattle.std.proofs.Common.{◌∙◌, ap, arith}
use Rattle.math.specs.Gcd.{gcd_all}
use Rattle.plan.specs.Layout.{layout, divisor}
use Rattle.shifts.specs.Shifts.{gaps}
use Rattle.plan.specs.Plans.{raw_plan, layout_of}
use Rattle.plan.proofs.PlanLaws.{divisor_is}
use Rattle.plan.specs.GoodPlan.{GoodPlan}
use Rattle.differences.specs.Sections.{TwoOf}

pub two_of : {n t : ℕ} {s : List ℕ} {i j : ℕ} → GoodPlan n t s → i < n → j < n → TwoOf t s i j
two_of {i = i} {j = j} u a b =
    let l = u.long in
    record { first = omega arith; second = omega arith; first_below = u.below i a; second_below = u.below j b; t_most = u.t_max }

-- the number of parity places, by the divisor of the first n shifts
pub parity_is : (n t : ℕ) (s : List ℕ) {g : ℕ} → GoodPlan n t s → g ≡ gcd_all t (gaps (take n s)) → 2 * t - g ≡ 2 * t - divisor (layout n t s)
unfolding layout_of
parity_is n t s u e =
    let p = raw_plan n t s in
    let f = u.n_min in
    ap (λ (x : ℕ). 2 * t - x) (e ∙ divisor_is p (omega arith) u.long)
