-- `plans::set_shift` meets its contract. Assumes nothing.
use mathlib.Core.List.{[]}
use mathlib.Core.Path.{sym, subst, refl}
use Rattle.std.specs.Prelude.{Some}
use Rattle.plan.specs.declared.Plan.{Plan}
use Rattle.act.specs.Acts.{state_of, Acts}
use Rattle.act.proofs.StateLaws.{shift_inside}
use Rattle.act.proofs.ActLaws.{shifted}
use Rattle.commands.specs.declared.Command.TheVariants.{SetShift}
use Rattle.act.proofs.plans.set_shift.Goals as goal

pub returns : goal.returns
unfolding state_of
returns c =
    let a = c.args in
    let r = shift_inside _ _ _ (c.requires.0 [] []) in
    λ v m k. subst (λ (p : Plan). Acts (SetShift a.j a.p) (Some a.plan) v m [] (Some p) v m) (sym c.with_shift.ensures) (shifted _ _ _ refl r.2 c.requires.1 v m k)
