-- `spare_clear` meets its contract. Assumes nothing.
use Rattle.calls.specs.Calls.{spare_clear}
use Rattle.calls.proofs.CallsLaws.{spare_past}
use lib.Seq.{length-take-le}
use mathlib.Core.Path.{sym}
use native.Mathlib.Omega.{arith}
use Rattle.calls.proofs.spare_clear.Goals as goal

pub returns-then-marks-bytes : goal.returns-then-marks-bytes
returns-then-marks-bytes c = spare_past _ _ (omega arith)

pub slice_bounds-none_from-end : goal.slice_bounds-none_from-end
slice_bounds-none_from-end c = sym (length-take-le _ _ (omega arith))

pub returns : goal.returns
unfolding spare_clear
returns c = c.none_from.ensures
