-- `put_word` meets its contract: the word stands in its part of the line. Assumes nothing.
use Rattle.std.proofs.Common.{arith}
use Rattle.pieces.specs.PiecesLaws.{appends_part}
use Rattle.pieces.proofs.put_word.Goals as goal

pub returns : goal.returns
returns c = appends_part _ _ _ _ c.copy_from_slice.ensures.after (omega arith) c.requires
