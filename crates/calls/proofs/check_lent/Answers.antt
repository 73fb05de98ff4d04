-- `check_lent` meets its contract. Assumes nothing.
use Rattle.plan.proofs.Answers.{failed, passed}
use Rattle.calls.proofs.CallsLaws.{lent_length, lent_spare, lent_pass}
use borrow.Author.Tests.{not-true, not-false}
use Rattle.std.proofs.lemmas.Bool.{not_from_false, not_from_true}
use Rattle.calls.proofs.check_lent.Goals as goal

pub returns-then-not-fits : goal.returns-then-not-fits
returns-then-not-fits c = lent_length _ _ _ (not-true _ (not_from_false _ c.if-not-fits.true))

pub returns-then-not-spare_clear : goal.returns-then-not-spare_clear
returns-then-not-spare_clear c = lent_spare _ _ _ (not-false _ (not_from_true _ c.if-not-fits.false)) (failed _ c.spare_clear.ensures (not_from_false _ c.if-not-spare_clear.true))

pub returns : goal.returns
returns c = lent_pass _ _ _ (not-false _ (not_from_true _ c.if-not-fits.false)) (passed _ c.spare_clear.ensures (not_from_true _ c.if-not-spare_clear.false))
