-- `shift` meets its contract, test by test. Assumes nothing.
use Rattle.std.specs.Prelude.{Ok, Err}
use Rattle.refusals.specs.declared.Refusal.TheVariants.{Shift}
use borrow.Author.Tests.{lt-ltb, le-ltb}
use Rattle.state.specs.RefusingLaws.{early_outside, early_inside}
use Rattle.std.proofs.lemmas.Bool.{not_from_false, not_from_true}
use Rattle.std.proofs.Common.{refl}
use Rattle.state.proofs.refusing.shift.Goals as goal

pub returns-then-n-j : goal.returns-then-n-j
returns-then-n-j c = early_outside _ _ _ refl (le-ltb _ _ c.if-n-j.true)

pub returns-then-t-p : goal.returns-then-t-p
returns-then-t-p c = let a = c.args in rw (le-ltb a.p a.t c.if-t-p.true) (early_inside _ _ (Err Shift) refl (lt-ltb _ _ c.if-n-j.false))

pub returns : goal.returns
returns c = let a = c.args in rw (lt-ltb a.p a.t c.if-t-p.false) (early_inside _ _ (Ok tt) refl (lt-ltb _ _ c.if-n-j.false))
