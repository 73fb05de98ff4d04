-- `count_rounds` meets its contract: the loop's invariant is Counting, and the erasures that are left get fewer. Assumes nothing.
use Rattle.plan.specs.Layout.{layout}
use Rattle.code.specs.Marks.{erasures}
use Rattle.rounding.specs.AllRounds.{Counting}
use Rattle.rounding.proofs.count_rounds.Given as goal

abbrev pub invariant-loop-left : goal.invariant-loop-left
invariant-loop-left l = Counting l.n l.t l.shifts (erasures (layout l.n l.t l.shifts) l.marks) l.sum l.tally l.queue l.head l.tail l.left l.k

abbrev pub decreases-loop-left : goal.decreases-loop-left
decreases-loop-left l = l.left
