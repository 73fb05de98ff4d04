use Rattle.std.proofs.Common.{◌≡◌, ◌∙◌, arith}
use Rattle.pieces.specs.DigitLoops.{widening_start, widening_fits, widening_step, widening_found, widening_last}
use Rattle.pieces.proofs.digits.width.Goals as goal

pub loop-k-init : goal.loop-k-init
loop-k-init c = widening_start _

pub returns-then-n-power-clause-value : goal.returns-then-n-power-clause-value
returns-then-n-power-clause-value c = widening_found c.loop-k.invariant c.if-n-power.true

pub overflow_mul-power : goal.overflow_mul-power
overflow_mul-power c = record { fits = widening_fits c.loop-k.invariant c.loop-k-test.true }

pub loop-k-preserved : goal.loop-k-preserved
loop-k-preserved c = widening_step c.loop-k.invariant c.loop-k-test.true c.if-n-power.false

pub returns-then-n-power-2-clause-value : goal.returns-then-n-power-2-clause-value
returns-then-n-power-2-clause-value c = let e : 19 ≡ c.loop-k.k = omega arith in e ∙ widening_found c.loop-k.invariant c.if-n-power-2.true

pub returns-clause-value : goal.returns-clause-value
returns-clause-value c = widening_last c.loop-k.invariant (omega arith) c.if-n-power-2.false c.ranges.n.fits
