-- `differences::mark` meets its contract. Assumes nothing.
use Rattle.differences.specs.DifferencesLaws.{mark_old}
use Rattle.differences.proofs.mark.Goals as goal

pub returns-then-marks-d-ne0 : goal.returns-then-marks-d-ne0
returns-then-marks-d-ne0 c = mark_old c.if-i-j.false c.difference-d.ensures.0 c.difference-d.ensures.1 c.if-marks-d-ne0.true
