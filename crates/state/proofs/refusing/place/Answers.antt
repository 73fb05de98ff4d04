-- `place` meets its contract, test by test. Assumes nothing.
use Rattle.plan.proofs.Answers.{failed, passed}
use Rattle.state.specs.RefusingLaws.{early_outside, early_inside}
use Rattle.std.proofs.lemmas.Bool.{not_from_false, not_from_true}
use Rattle.std.proofs.Common.{refl}
use Rattle.state.proofs.refusing.place.Goals as goal

pub returns-then-not-inside : goal.returns-then-not-inside
returns-then-not-inside c = early_outside _ _ _ refl (failed _ c.inside.ensures (not_from_false _ c.if-not-inside.true))

pub returns : goal.returns
returns c = early_inside _ _ _ refl (passed _ c.inside.ensures (not_from_true _ c.if-not-inside.false))
