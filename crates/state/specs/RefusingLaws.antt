-- The tests of a place and of a run with no product, and the cases of what refuses a command.
-- Main results: inside_none, inside_some, within_none, within_some; early_no_plan, early_outside, early_inside; refusal_by, refusal_held, refusal_none, none_early, passes_planned.
use Rattle.std.specs.Prelude.{◌≡◌, refl, Bool, true, false, not, ℕ, suc, ◌-◌, ◌*◌, ◌/◌, ◌≤◌, ◌<◌, leb, ltb, [], Result, Ok, Err, Option, None, Some, is_some, IfSome}
use Rattle.std.proofs.Common.{true≢false, sym, subst, ◌∙◌, ap, div-lt_iff_lt-mul, le-div_iff_mul-le, mul_comm, arith, lt-ltb, le-ltb}
use Rattle.std.proofs.Math.Logic.{by_cases}
use Rattle.std.proofs.Math.Decide.{dec_lt}
use Rattle.std.proofs.Math.Dec.{leb-zero}
use Rattle.std.proofs.lemmas.Bool.{not-true, not-false}
use Rattle.refusals.proofs.RefusalLaws.{number_once, answer_not_stop}
use Rattle.refusals.specs.declared.Refusal.{Refusal}
use Rattle.refusals.specs.declared.Refusal.TheVariants.{Early}
use Rattle.refusals.specs.Refusals.{Check, check_number}
use Rattle.std.specs.Option.{ok_or}
use Rattle.plan.specs.declared.Plan.{Plan}
use Rattle.commands.specs.declared.Command.{Command}
use Rattle.commands.specs.declared.Command.TheVariants.{NewPlan, SetShift, SetSymbol, MarkOne, MarkRun, Recover, Seal, Show, Figures, Straight, Powers, Ruler, Fetch}
use Rattle.state.specs.State.{State}
use Rattle.state.specs.Refusing.{early, makes_plan, refusal_of}

pub inside_none : (n t c : ℕ) → n ≡ 0 → false ≡ ltb c (n * t)
inside_none n t c e = rw e (sym (le-ltb c (0 * t) (omega arith)))

pub inside_some : (n t c : ℕ) → (n ≡ 0 → ⊥) → ltb (c / n) t ≡ ltb c (n * t)
inside_some n t c e =
    let p : 0 < n = omega arith in
    by_cases (dec_lt c (n * t))
    (λ h. lt-ltb (c / n) t ((div-lt_iff_lt-mul p).1 (rw (mul_comm t n) h)) ∙ sym (lt-ltb c (n * t) h))
    (λ h. le-ltb (c / n) t ((le-div_iff_mul-le p).1 (let l : t * n ≤ c = rw (mul_comm t n) (omega arith) in l)) ∙ sym (le-ltb c (n * t) (omega arith)))

pub within_none : (x e : ℕ) → e ≡ 0 → true ≡ leb e x
within_none x e h = rw h (sym (leb-zero x))

pub within_some : (x e : ℕ) → (e ≡ 0 → ⊥) → ltb (e - 1) x ≡ leb e x
within_some x e h = let f : suc (e - 1) ≡ e = omega arith in ap (λ y. leb y x) f

module _ (planned inside : Bool) (other : Check) where
  pub early_no_plan : not planned ≡ true → Err Early ≡ early planned inside other
  unfolding early
  early_no_plan h = rw (not-true planned h)

  pub early_outside : not planned ≡ false → inside ≡ false → Err Early ≡ early planned inside other
  unfolding early
  early_outside h i = rw (not-false planned h, i)

  pub early_inside : not planned ≡ false → inside ≡ true → other ≡ early planned inside other
  unfolding early
  early_inside h i = rw (not-false planned h, i)

-- a state of which only the plan counts
abbrev pub bare : Bool → Plan → State
bare planned plan = record { planned = planned; plan = plan; block = []; marks = [] }

-- what refuses a command depends on the plan alone
refusal_same : (s : State) (planned : Bool) (plan : Plan) (c : Command) → s.planned ≡ planned → s.plan ≡ plan → refusal_of (bare planned plan) c ≡ refusal_of s c
unfolding refusal_of
refusal_same s a p (NewPlan n t) e f = refl
refusal_same s a p (SetShift j q) e f = rw (e, f)
refusal_same s a p (SetSymbol c v) e f = rw (e, f)
refusal_same s a p (MarkOne c) e f = rw (e, f)
refusal_same s a p (MarkRun c m) e f = rw (e, f)
refusal_same s a p Recover e f = rw e
refusal_same s a p Seal e f = rw e
refusal_same s a p (Show c) e f = rw (e, f)
refusal_same s a p Figures e f = rw e
refusal_same s a p (Straight n t) e f = refl
refusal_same s a p (Powers n t q) e f = refl
refusal_same s a p (Ruler n) e f = refl
refusal_same s a p Fetch e f = rw e

-- the refusal of a command that is known, on every state with this plan
pub refusal_by : (planned : Bool) (plan : Plan) {c k : Command} {r : Check} → c ≡ k → r ≡ refusal_of (bare planned plan) k →
    (s : State) → s.planned ≡ planned → s.plan ≡ plan → r ≡ refusal_of s c
refusal_by planned plan {c} {k} {r} e h s f g = h ∙ sym (ap (refusal_of (bare planned plan)) e) ∙ refusal_same s planned plan c f g

-- the same by the plan that is held, or none
pub refusal_held : {held : Option Plan} {plan : Plan} {c k : Command} {r : Check} → held ≡ Some plan → c ≡ k → r ≡ refusal_of (bare true plan) k →
    (s : State) → s.planned ≡ is_some held → IfSome held (λ p. s.plan ≡ p) → r ≡ refusal_of s c
refusal_held {held} {plan} q e h s f g =
    refusal_by true plan e h s (f ∙ ap is_some q) (subst (λ (x : Option Plan). IfSome x (λ p. s.plan ≡ p)) q g)

-- with no plan every command that makes none is early
pub refusal_none : (s : State) (c : Command) → makes_plan c ≡ false → s.planned ≡ false → Err Early ≡ refusal_of s c
unfolding makes_plan refusal_of early
refusal_none s (NewPlan n t) m e = absurd (true≢false m)
refusal_none s (SetShift j p) m e = rw e refl
refusal_none s (SetSymbol k v) m e = rw e refl
refusal_none s (MarkOne k) m e = rw e refl
refusal_none s (MarkRun k n) m e = rw e refl
refusal_none s Recover m e = rw e refl
refusal_none s Seal m e = rw e refl
refusal_none s (Show k) m e = rw e refl
refusal_none s Figures m e = rw e refl
refusal_none s (Straight n t) m e = absurd (true≢false m)
refusal_none s (Powers n t q) m e = absurd (true≢false m)
refusal_none s (Ruler n) m e = absurd (true≢false m)
refusal_none s Fetch m e = rw e refl

-- what stands for no plan is early
pub none_early : (held : Option Plan) {x : Refusal} → ◌≡◌ {A = Result Plan Refusal} (Err x) (ok_or held Early) → x ≡ Early
none_early None {x} e = number_once x Early (ap check_number e)
none_early (Some p) {x} e = absurd (answer_not_stop x (sym e))

-- so a command that makes no plan and is not refused has one
pub passes_planned : (s : State) (c : Command) → makes_plan c ≡ false → refusal_of s c ≡ Ok tt → s.planned ≡ true
passes_planned s c m e = by_planned s.planned refl
  where
    not_early : ◌≡◌ {A = Check} (Ok tt) (Err Early) → ⊥
    not_early q = let z : 0 ≡ 9 = ap check_number q in omega (arith, z)

    by_planned : (b : Bool) → s.planned ≡ b → s.planned ≡ true
    by_planned true p = p
    by_planned false p = absurd (not_early (sym e ∙ sym (refusal_none s c m p)))
