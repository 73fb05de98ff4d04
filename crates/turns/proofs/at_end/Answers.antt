-- More may come, or the job ends.
use mathlib.Core.Path.{refl}
use native.Mathlib.Omega.{arith}
use borrow.Author.Tests.{not-true, not-false}
use Rattle.lines.proofs.LinesLaws.{wrote_at}
use Rattle.turns.proofs.TurnLaws.{same, on_nothing_yet, on_end, says_end}
use Rattle.std.proofs.lemmas.Bool.{not_from_false, not_from_true}
use Rattle.turns.proofs.at_end.Goals as goal

pub returns-then-not-last : goal.returns-then-not-last
returns-then-not-last c = λ v m b o p. on_nothing_yet p (not-true _ (not_from_false _ c.if-not-last.true)) refl (same _ _ _) refl

pub end_line-count-requires : goal.end_line-count-requires
end_line-count-requires c = omega (arith, c.requires)

pub returns : goal.returns
returns c = λ v m b o p. on_end p (not-false _ (not_from_true _ c.if-not-last.false)) (says_end _ (wrote_at c.end_line-count.ensures)) (same _ _ _)
