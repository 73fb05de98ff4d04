-- What refuses a call, what one that passes gives, and how each answer keeps its promise.
-- Main results: checks_stop, checks_lent; pass_plan, pass_long; encoded, read, crossed.
use Rattle.std.specs.Prelude.{◌≡◌, Bool, ℕ, ◌*◌, length, get_or, Ok, Err}
use Rattle.std.proofs.Common.{sym, ◌∙◌}
use mathlib.Core.List.{List, [], map}
use Rattle.plan.specs.Layout.{layout, message_count}
use Rattle.plan.specs.Plans.{layout_of, plan_check}
use Rattle.plan.proofs.PlanLaws.{good_bounds}
use Rattle.plan.specs.declared.Plan.{Plan}
use Rattle.plan.specs.GoodPlan.{GoodPlan}
use Rattle.code.specs.Codewords.{Codeword}
use Rattle.code.specs.Messages.{Carries}
use Rattle.code.specs.Laws.ParityCount.{messages}
use Rattle.runs.specs.Runs.{RunsOf}
use Rattle.runs.specs.Laws.Fronts.{total, total_count}
use Rattle.calls.specs.Calls.{lengths_fit, lent_check, check_of}
use Rattle.calls.proofs.CallsLaws.{part_same, call_stop, call_lent, pass_good}
use Rattle.refusals.proofs.RefusalLaws.{pass_not_stop}
use Rattle.refusals.specs.declared.Refusal.{Refusal}
use Rattle.refusals.specs.Refusals.{Check}
use Rattle.promises.specs.Promises.{message_lent, Encodes, Reads}
use Rattle.promises.proofs.Building.{message_lengths, encodes_done, reads_read, reads_crossed}
use Rattle.answers.specs.declared.Reading.TheVariants as reading

-- the answer is what refuses a call with message d and block v, and with one that passes stand the runs
pub record Checks (p : Plan) (d v : List ℕ) (k : Check) (runs : List ℕ) : Type 0 where
  pub answer : k ≡ check_of p (message_lent d v) []
  pub of : k ≡ Ok tt → RunsOf p.n p.t (layout p.n p.t p.shifts) runs

module _ (p : Plan) (d v : List ℕ) where
  pub checks_stop : {x : Refusal} {runs : List ℕ} → plan_check p ≡ Err x → Checks p d v (Err x) runs
  unfolding check_of
  checks_stop {x} e = record { answer = call_stop p _ [] e; of = λ q. absurd (pass_not_stop x (sym q)) }

  -- the runs count the message places
  pub checks_lent : {k : Check} {fits : Bool} {runs : List ℕ} (count : ℕ) → plan_check p ≡ Ok tt → RunsOf p.n p.t (layout p.n p.t p.shifts) runs →
      count ≡ total runs p.n → fits ≡ lengths_fit p.n p.t count (message_lent d v) → k ≡ lent_check (p.n * p.t) fits [] → Checks p d v k runs
  unfolding layout_of
  checks_lent count e r c f g =
      record { answer = call_lent p (message_lent d v) [] count e g f (part_same (message_lent d v).message (c ∙ total_count r)); of = λ _. r }

module _ (p : Plan) (d v : List ℕ) (pass : check_of p (message_lent d v) [] ≡ Ok tt) where
  pub pass_plan : GoodPlan p.n p.t p.shifts
  pass_plan = good_bounds p (pass_good p (message_lent d v) [] pass)

  pub pass_long : (length v ≡ p.n * p.t) × (length d ≡ message_count (layout p.n p.t p.shifts))
  unfolding layout_of layout
  pass_long = message_lengths p d v pass

  pub encoded : {v' : List ℕ} → Carries (layout p.n p.t p.shifts) v' d → Encodes p d v (Ok tt) v'
  unfolding layout_of
  encoded = encodes_done p d v pass

  pub read : {d' : List ℕ} → Codeword (layout p.n p.t p.shifts) v → d' ≡ map (λ c. get_or v c 0) (messages (layout p.n p.t p.shifts)) → Reads p v d reading.Read d'
  unfolding layout_of
  read = reads_read p v d pass

  pub crossed : ¬ (Codeword (layout p.n p.t p.shifts) v) → Reads p v d reading.Crossed d
  unfolding layout_of
  crossed = reads_crossed p v d pass
