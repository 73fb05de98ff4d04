-- By whether they are cut.
use mathlib.Core.Path.{◌≡◌, refl, sym, subst}
use mathlib.Core.Bool.{Bool, true, false, ◌&&◌, not}
use Rattle.streaming.proofs.ends.Goals as goal

never : (last : Bool) → false ≡ (last && false)
never true = refl
never false = refl

always : (last : Bool) → last ≡ (last && true)
always true = refl
always false = refl

pub returns-then-cut : goal.returns-then-cut
returns-then-cut c = subst (λ x. false ≡ (c.args.last && not x)) (sym c.if-cut.true) (never c.args.last)

pub returns : goal.returns
returns c = subst (λ x. c.args.last ≡ (c.args.last && not x)) (sym c.if-cut.false) (always c.args.last)
