-- `walk::pass` meets its contract: down to the first place that closes a cycle, and on from there. Assumes nothing.
use mathlib.Core.Path.{refl}
use native.Mathlib.Omega.{arith}
use Rattle.components.specs.Walking.{bare, first_at, passed_at, passed_none}
use Rattle.components.proofs.walk.pass.Goals as goal

pub pass_zeros-low-requires : goal.pass_zeros-low-requires
pass_zeros-low-requires c = omega (arith, c.requires.good, c.requires.bytes)

pub overflow_mul-low : goal.overflow_mul-low
overflow_mul-low c = omega (arith, c.pass_zeros-low.ensures.1)

pub overflow_mul-places : goal.overflow_mul-places
overflow_mul-places c = omega (arith, c.requires.good)

pub overflow_cast-start : goal.overflow_cast-start
overflow_cast-start c = omega (arith, c.requires.good)

pub descend-requires : goal.descend-requires
descend-requires c = (c.requires, bare c.pass_zeros-low.ensures.0 refl)

pub returns-in_err-spot : goal.returns-in_err-spot
returns-in_err-spot c = rw c.from_residual.ensures (passed_none c.requires c.in_err-spot.was c.descend.ensures)

pub descend-requires-2 : goal.descend-requires-2
descend-requires-2 c = ((first_at c.in_ok-spot.was c.descend.ensures).walking, bare c.pass_zeros-low.ensures.0 refl)

pub returns : goal.returns
returns c = passed_at c.requires c.in_ok-spot.spot (first_at c.in_ok-spot.was c.descend.ensures) _ c.descend-2.ensures
