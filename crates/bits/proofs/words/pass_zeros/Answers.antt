use Rattle.std.proofs.Common.{arith}
use Rattle.bits.specs.Words.{clear_more}
use Rattle.bits.proofs.words.pass_zeros.Goals as goal

pub loop-a-preserved : goal.loop-a-preserved
loop-a-preserved c = (clear_more c.loop-a.invariant.0 c.full_word.ensures c.if-full_word-eq0.true, omega arith)
