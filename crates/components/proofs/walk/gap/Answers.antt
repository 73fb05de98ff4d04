-- `walk::gap` meets its contract: the leading zeros of the word are a law of specs/Gaps. Assumes nothing.
use Rattle.std.proofs.Common.{arith}
use Rattle.components.specs.Gaps.{gap_word}
use Rattle.components.proofs.walk.gap.Goals as goal

pub returns : goal.returns
returns c = gap_word c.args.c.0 c.byte_below-i.result _ c.word_from.ensures c.byte_below-i.ensures.0 c.byte_below-i.ensures.1 (omega arith) (omega arith)
