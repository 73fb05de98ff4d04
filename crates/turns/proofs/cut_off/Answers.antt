-- `cut_off` meets its contract. Assumes nothing.
use mathlib.Core.Path.{refl}
use borrow.Author.Tests.{not-true, not-false}
use Rattle.turns.proofs.TurnLaws.{same, on_cut_yet, on_short}
use Rattle.std.proofs.lemmas.Bool.{not_from_false, not_from_true}
use Rattle.turns.proofs.cut_off.Goals as goal

pub returns-then-not-last : goal.returns-then-not-last
returns-then-not-last c = λ v m b p. on_cut_yet p (not-true _ (not_from_false _ c.if-not-last.true)) refl (same _ _ _) refl

pub returns : goal.returns
returns c = λ v m b p. on_short p (not-false _ (not_from_true _ c.if-not-last.false)) c.stop.ensures.1 (record { held = c.stop.ensures.0; block = refl; marks = refl })
