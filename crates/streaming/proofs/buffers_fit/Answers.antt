-- Test after test.
use borrow.Author.Tests.{eq-eqb, ne_eqb, le-leb, lt-leb}
use Rattle.stream.specs.Streams.{stream_fits}
use Rattle.streaming.proofs.buffers_fit.Goals as goal

pub returns-then-block-ne-BLOCK : goal.returns-then-block-ne-BLOCK
unfolding stream_fits
returns-then-block-ne-BLOCK c = simp (ne_eqb _ _ c.if-block-ne-BLOCK.true)

pub returns-then-marks-ne-MARKS : goal.returns-then-marks-ne-MARKS
unfolding stream_fits
returns-then-marks-ne-MARKS c = simp (eq-eqb _ _ c.if-block-ne-BLOCK.false, ne_eqb _ _ c.if-marks-ne-MARKS.true)

pub returns-then-sheet-lt-LINE : goal.returns-then-sheet-lt-LINE
unfolding stream_fits
returns-then-sheet-lt-LINE c = simp (eq-eqb _ _ c.if-block-ne-BLOCK.false, eq-eqb _ _ c.if-marks-ne-MARKS.false, lt-leb _ _ c.if-sheet-lt-LINE.true)

pub returns-then-input-lt-LONGEST : goal.returns-then-input-lt-LONGEST
unfolding stream_fits
returns-then-input-lt-LONGEST c = simp (eq-eqb _ _ c.if-block-ne-BLOCK.false, eq-eqb _ _ c.if-marks-ne-MARKS.false, le-leb _ _ c.if-sheet-lt-LINE.false, lt-leb _ _ c.if-input-lt-LONGEST.true)

pub returns-then-end-at : goal.returns-then-end-at
unfolding stream_fits
returns-then-end-at c = simp (eq-eqb _ _ c.if-block-ne-BLOCK.false, eq-eqb _ _ c.if-marks-ne-MARKS.false, le-leb _ _ c.if-sheet-lt-LINE.false, le-leb _ _ c.if-input-lt-LONGEST.false, lt-leb _ _ c.if-end-at.true)

pub returns-then-input-end : goal.returns-then-input-end
unfolding stream_fits
returns-then-input-end c = simp (eq-eqb _ _ c.if-block-ne-BLOCK.false, eq-eqb _ _ c.if-marks-ne-MARKS.false, le-leb _ _ c.if-sheet-lt-LINE.false, le-leb _ _ c.if-input-lt-LONGEST.false, le-leb _ _ c.if-end-at.false, lt-leb _ _ c.if-input-end.true)

pub returns : goal.returns
unfolding stream_fits
returns c = simp (eq-eqb _ _ c.if-block-ne-BLOCK.false, eq-eqb _ _ c.if-marks-ne-MARKS.false, le-leb _ _ c.if-sheet-lt-LINE.false, le-leb _ _ c.if-input-lt-LONGEST.false, le-leb _ _ c.if-end-at.false, le-leb _ _ c.if-input-end.false)
