use Rattle.peel.specs.Peels.{peeling_less, peeling_end}
use Rattle.peel.proofs.drain_by.Goals as goal

pub loop-head-smaller : goal.loop-head-smaller
loop-head-smaller g c = (peeling_less c.loop-head.invariant c.loop-head-test.true).1

pub returns : goal.returns
returns g c = peeling_end c.loop-head.invariant c.loop-head-test.false
