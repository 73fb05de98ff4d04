-- `bits::words::word_from` meets its contract: no place of the word is below `first`, or the lowest bits are cleared.
use Rattle.std.proofs.Common.{refl, ◌-◌, ◌*◌, arith}
use Rattle.bits.specs.Words.{word_late, word_cut}
use Rattle.bits.proofs.words.word_from.Goals as goal

pub returns-then-a-i : goal.returns-then-a-i
returns-then-a-i c = word_late c.args.first.0 c.word_at-word.ensures (omega arith) (omega (arith, c.from-a.ensures, c.if-a-i.true))

pub returns : goal.returns
returns c = word_cut c.args.first.0 (c.from-a.result - 8 * c.args.i) _ c.word_at-word.ensures (omega (arith, c.from-a.ensures, c.if-a-i.false)) refl
