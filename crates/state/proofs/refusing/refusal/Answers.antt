-- `refusal` meets its contract, arm by arm. Assumes nothing.
use mathlib.Core.Path.{refl, sym, ap, ◌∙◌}
use Rattle.std.specs.Prelude.{Err}
use Rattle.refusals.proofs.RefusalLaws.{handed_on}
use Rattle.state.specs.Refusing.{refusal_of}
use Rattle.state.specs.RefusingLaws.{refusal_held, refusal_none, none_early}
use Rattle.state.proofs.Tags.{passes_rest}
use Rattle.state.proofs.refusing.refusal.Goals as goal

pub returns-in_err-plan : goal.returns-in_err-plan
returns-in_err-plan c =
    let e = c.in_err-plan.ensures in
    λ s f g. handed_on _ c.from_residual.ensures.1 ∙ ap Err (none_early _ e.value) ∙ refusal_none s _ c.requires (f ∙ sym e.variant)

pub returns-in-SetShift : goal.returns-in-SetShift
unfolding refusal_of
returns-in-SetShift c = refusal_held c.in_ok-plan.ensures.ok_part c.in-SetShift.is c.shift.ensures

pub returns-in-SetSymbol : goal.returns-in-SetSymbol
unfolding refusal_of
returns-in-SetSymbol c = refusal_held c.in_ok-plan.ensures.ok_part c.in-SetSymbol.is c.place.ensures

pub returns-in-MarkOne : goal.returns-in-MarkOne
unfolding refusal_of
returns-in-MarkOne c = refusal_held c.in_ok-plan.ensures.ok_part c.in-MarkOne.is c.place-in-MarkOne.ensures

pub returns-in-MarkRun : goal.returns-in-MarkRun
unfolding refusal_of
returns-in-MarkRun c = refusal_held c.in_ok-plan.ensures.ok_part c.in-MarkRun.is c.run.ensures

pub returns-in-Show : goal.returns-in-Show
unfolding refusal_of
returns-in-Show c = refusal_held c.in_ok-plan.ensures.ok_part c.in-Show.is c.place-in-Show.ensures

pub returns-in_default : goal.returns-in_default
returns-in_default c =
    let d = c.in_default in
    refusal_held c.in_ok-plan.ensures.ok_part refl (passes_rest _ c.args.command c.requires d.not-SetShift d.not-SetSymbol d.not-MarkOne d.not-MarkRun d.not-Show)
