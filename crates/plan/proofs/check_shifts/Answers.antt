-- `check_shifts` meets its contract. Assumes nothing.
use Rattle.plan.proofs.Answers.{failed, passed, shifts_count, shifts_below, shifts_pass}
use native.Mathlib.Omega.{arith}
use Rattle.std.proofs.lemmas.Bool.{not_from_false, not_from_true}
use Rattle.plan.proofs.check_shifts.Goals as goal

pub returns-then-shifts-n : goal.returns-then-shifts-n
returns-then-shifts-n c = shifts_count _ _ _ (omega arith)

pub returns-then-not-all_below : goal.returns-then-not-all_below
returns-then-not-all_below c = shifts_below _ _ _ (omega arith) (failed _ c.all_below.ensures (not_from_false _ c.if-not-all_below.true))

pub returns : goal.returns
returns c = shifts_pass _ _ _ (omega arith) (passed _ c.all_below.ensures (not_from_true _ c.if-not-all_below.false))
