-- `message_places` meets its contract. Assumes nothing.
use Rattle.plan.proofs.PlanLaws.{divisor_most, messages_are}
use lib.Seq.{length-take-le}
use mathlib.Core.Path.{sym}
use native.Mathlib.Nat.{mul-le-mul, le_refl}
use native.Mathlib.Omega.{arith}
use Rattle.plan.proofs.message_places.Goals as goal

pub slice_bounds-divisor-end : goal.slice_bounds-divisor-end
slice_bounds-divisor-end c = sym (length-take-le _ _ c.requires.long)

pub overflow_mul-result : goal.overflow_mul-result
overflow_mul-result c = omega (arith, c.requires)

pub overflow_mul-result-2 : goal.overflow_mul-result-2
overflow_mul-result-2 c = omega (arith, c.requires)

pub overflow_sub-result : goal.overflow_sub-result
overflow_sub-result c = omega (arith, divisor_most _ c.requires.t_min c.divisor-g.ensures)

pub overflow_sub-result-2 : goal.overflow_sub-result-2
overflow_sub-result-2 c = omega (arith, mul-le-mul c.requires.n_min (le_refl c.args.t))

pub returns : goal.returns
returns c = messages_are _ _ _ c.requires c.divisor-g.ensures
