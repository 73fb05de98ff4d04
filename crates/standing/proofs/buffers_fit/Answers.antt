-- Each length is compared.
use Rattle.standing.specs.StandingLaws.{block_off, marks_off, line_last}
use Rattle.standing.proofs.buffers_fit.Goals as goal

pub returns-then-block-ne-BLOCK : goal.returns-then-block-ne-BLOCK
returns-then-block-ne-BLOCK c = block_off _ _ _ c.if-block-ne-BLOCK.true

pub returns-then-marks-ne-MARKS : goal.returns-then-marks-ne-MARKS
returns-then-marks-ne-MARKS c = marks_off _ _ _ c.if-block-ne-BLOCK.false c.if-marks-ne-MARKS.true

pub returns : goal.returns
returns c = line_last _ _ _ c.if-block-ne-BLOCK.false c.if-marks-ne-MARKS.false
