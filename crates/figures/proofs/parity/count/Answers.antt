-- `parity::count` meets its contract. Assumes nothing.
use Rattle.differences.specs.SectionsLaws.{parity_is}
use Rattle.plan.proofs.PlanLaws.{divisor_most}
use lib.Seq.{length-take-le}
use mathlib.Core.Path.{sym}
use native.Mathlib.Omega.{arith}
use Rattle.figures.proofs.parity.count.Goals as goal

pub slice_bounds-divisor-end : goal.slice_bounds-divisor-end
slice_bounds-divisor-end c = sym (length-take-le _ _ c.requires.long)

pub overflow_sub-result : goal.overflow_sub-result
overflow_sub-result c = omega (arith, divisor_most _ c.requires.t_min c.divisor-g.ensures)

pub returns : goal.returns
returns c = parity_is _ _ _ c.requires c.divisor-g.ensures
