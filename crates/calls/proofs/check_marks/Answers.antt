-- `check_marks` meets its contract. Assumes nothing.
use Rattle.calls.specs.Calls.{count_lent}
use Rattle.calls.proofs.check_marks.Goals as goal

pub returns : goal.returns
unfolding count_lent
returns c = c.check_call.ensures
