-- `run` meets its contract, test by test. Assumes nothing.
use Rattle.plan.proofs.Answers.{failed, passed}
use mathlib.Core.Path.{sym, ◌∙◌}
use Rattle.state.specs.RefusingLaws.{early_outside, early_inside, within_none, within_some}
use Rattle.std.proofs.lemmas.Bool.{not_from_false, not_from_true}
use Rattle.std.proofs.Common.{refl}
use Rattle.state.proofs.refusing.run.Goals as goal

pub returns-then-end-eq0 : goal.returns-then-end-eq0
returns-then-end-eq0 c = early_inside _ _ _ refl (sym (within_none _ _ c.if-end-eq0.true))

pub returns-then-not-inside : goal.returns-then-not-inside
returns-then-not-inside c = early_outside _ _ _ refl (sym (within_some _ _ c.if-end-eq0.false) ∙ failed _ c.inside.ensures (not_from_false _ c.if-not-inside.true))

pub returns : goal.returns
returns c = early_inside _ _ _ refl (sym (within_some _ _ c.if-end-eq0.false) ∙ passed _ c.inside.ensures (not_from_true _ c.if-not-inside.false))
