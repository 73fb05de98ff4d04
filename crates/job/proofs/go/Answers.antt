-- A command that makes a plan, or one that is refused, or performed. Assumes nothing.
use mathlib.Core.Path.{◌≡◌, refl, sym, subst, ◌∙◌}
use Rattle.std.specs.Prelude.{Ok}
use Rattle.state.specs.Refusing.{refusal_of}
use Rattle.state.specs.RefusingLaws.{passes_planned}
use Rattle.refusals.proofs.RefusalLaws.{pass_not_stop}
use Rattle.act.specs.Acts.{Held, Kept, state_of}
use Rattle.turns.proofs.TurnLaws.{on_refused, on_acts}
use Rattle.job.proofs.PerformLaws.{held_shown, acts_held}
use Rattle.job.proofs.go.Goals as goal

pub make-requires : goal.make-requires
make-requires c = (c.requires.0, c.requires.1, sym c.makes_plan.ensures ∙ c.if-makes_plan.true)

pub shape_of-block-then-makes_plan : goal.shape_of-block-then-makes_plan
shape_of-block-then-makes_plan c = c.make.auto.block

pub shape_of-marks-then-makes_plan : goal.shape_of-marks-then-makes_plan
shape_of-marks-then-makes_plan c = c.make.auto.marks

pub shape_of-line-then-makes_plan : goal.shape_of-line-then-makes_plan
shape_of-line-then-makes_plan c = c.make.auto.line

pub refusal-requires : goal.refusal-requires
refusal-requires c = sym c.makes_plan.ensures ∙ c.if-makes_plan.false

pub unwrap-requires : goal.unwrap-requires
unfolding state_of
unwrap-requires c =
    let r = sym (c.refusal.ensures (state_of c.args.held c.args.block.now c.args.marks.now) refl (held_shown c.args.held)) ∙ c.in-Ok.is in
    passes_planned (state_of c.args.held c.args.block.now c.args.marks.now) _ (sym c.makes_plan.ensures ∙ c.if-makes_plan.false) r

pub dispatch-done-requires : goal.dispatch-done-requires
unfolding state_of
dispatch-done-requires c =
    let a = c.args in
    let r = sym (c.refusal.ensures (state_of a.held a.block.now a.marks.now) refl (held_shown a.held)) ∙ c.in-Ok.is in (
      subst (λ (h : Held). Kept h a.block.now a.marks.now) c.unwrap.ensures c.requires.0,
      c.requires.1,
      subst (λ (h : Held). refusal_of (state_of h a.block.now a.marks.now) a.command ≡ Ok tt) c.unwrap.ensures r,
      sym c.makes_plan.ensures ∙ c.if-makes_plan.false,
    )

pub shape_of-line-in-Err : goal.shape_of-line-in-Err
shape_of-line-in-Err c = c.stop.auto.line

pub returns-in-Err : goal.returns-in-Err
unfolding state_of
returns-in-Err c =
    λ b last p e. on_refused _ p (sym c.in-Err.is ∙ c.refusal.ensures _ refl (held_shown c.args.held)) (λ q. pass_not_stop _ (sym q)) c.stop.ensures.1
    (record { held = c.stop.ensures.0; block = refl; marks = refl })

pub shape_of-block : goal.shape_of-block
shape_of-block c = c.dispatch-done.auto.block

pub shape_of-marks : goal.shape_of-marks
shape_of-marks c = c.dispatch-done.auto.marks

pub shape_of-line-in-Ok : goal.shape_of-line-in-Ok
shape_of-line-in-Ok c = c.dispatch-done.auto.line

pub returns-in-Ok : goal.returns-in-Ok
unfolding state_of
returns-in-Ok c =
    λ b last p e. on_acts _ _ p e (sym (c.refusal.ensures _ refl (held_shown c.args.held)) ∙ c.in-Ok.is)
    (record { count = _; on = refl; used = refl; length = refl; text = _; wrote = c.dispatch-done.ensures.1; acts = acts_held c.unwrap.ensures c.dispatch-done.ensures.0 })

pub returns-then-makes_plan : goal.returns-then-makes_plan
returns-then-makes_plan c = c.make.ensures
