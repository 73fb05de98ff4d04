use mathlib.Core.Path.{◌∙◌}
use native.Mathlib.Omega.{arith}
use Rattle.code.proofs.Laws.MarksLaws.{erasures_erased}
use Rattle.rounding.specs.AllRounds.{zero_block, counting_start, counting_step, counting_few}
use Rattle.rounding.proofs.count_rounds.Goals as goal

pub loop-left-init : goal.loop-left-init
loop-left-init c = counting_start c.requires.lent.0.good (zero_block _ _ _ _ c.requires.sum_value.0 c.note_marks.ensures c.requires.lent.2) c.seed-tail.ensures (c.seed-tail.auto.queue ∙ c.requires.sum_value.2)

pub overflow_add-k : goal.overflow_add-k
overflow_add-k c = omega (arith, counting_few c.loop-left.invariant (erasures_erased _ _).rising c.requires.lent.1 (omega (arith, c.loop-left-test.true)))

pub loop-left-smaller : goal.loop-left-smaller
loop-left-smaller c = (counting_step c.loop-left.invariant (erasures_erased _ _).rising c.requires.lent.1 (omega (arith, c.loop-left-test.true)) c.round-ends.ensures).1

pub loop-left-preserved : goal.loop-left-preserved
loop-left-preserved c = (counting_step c.loop-left.invariant (erasures_erased _ _).rising c.requires.lent.1 (omega (arith, c.loop-left-test.true)) c.round-ends.ensures).0
