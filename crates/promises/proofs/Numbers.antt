-- 01's numbers beside the outcomes that they stand for, and the joins between counts: what an answer's number says.
-- Main results: decided_number, encode_always, encoded_number, read_number, message_count_is.
use Rattle.std.specs.Prelude.{◌≡◌, refl, ◌↔◌, ◌≢◌, List, [], ℕ, ◌-◌, ◌*◌, ◌<◌, length, Ok, Result, Err}
use Rattle.std.proofs.Common.{◌∙◌, ap, arith}
use Rattle.math.specs.MembersLaws.{length_up_to}
use Rattle.plan.specs.Layout.{Layout, layout, message_count, divisor}
use Rattle.plan.specs.Plans.{layout_of, plan_check}
use Rattle.plan.proofs.PlanLaws.{good_valid, good_bounds}
use Rattle.plan.specs.declared.Plan.{Plan}
use Rattle.code.specs.Codewords.{Single}
use Rattle.code.specs.Messages.{Message, Lists, Carries}
use Rattle.code.proofs.Theorems.{message_count_lem}
use Rattle.code.proofs.Laws.Carrying.{lists_unique}
use Rattle.refusals.specs.Refusals.{number_of, check_number, Check}
use Rattle.refusals.proofs.RefusalLaws.{number_some}
use Rattle.calls.specs.Calls.{check_of}
use Rattle.refusals.specs.declared.Refusal.{Refusal}
use Rattle.refusals.specs.declared.Refusal.TheVariants as refusal
use Rattle.answers.specs.Answers.{recovery_number, reading_number}
use Rattle.promises.specs.Promises.{Numbered, Decides, Encodes, ReadBy, Reads, message_lent}
use Rattle.answers.specs.declared.Recovery.{Recovery}
use Rattle.answers.specs.declared.Recovery.TheVariants.{Recovered, Crossed, Loose, Refused}
use Rattle.answers.specs.declared.Reading.{Reading}
use Rattle.answers.specs.declared.Reading.TheVariants as reading

-- The fields that speak of numbers follow from those that speak of cases.

number_success : (r : Recovery) → ((x : Refusal) → r ≢ Refused x) → recovery_number r ≡ 0 → r ≡ Recovered
number_success Recovered n e = refl
number_success (Crossed z) n e = absurd (omega (arith, e))
number_success (Loose z) n e = absurd (omega (arith, e))
number_success (Refused x) n e = absurd (n x refl)

number_crossed : (r : Recovery) → ((x : Refusal) → r ≢ Refused x) → recovery_number r ≡ number_of refusal.Crossed → (z : ℕ) × (r ≡ Crossed z)
number_crossed Recovered n e = absurd (omega (arith, e))
number_crossed (Crossed z) n e = (z, refl)
number_crossed (Loose z) n e = absurd (omega (arith, e))
number_crossed (Refused x) n e = absurd (n x refl)

number_loose : (r : Recovery) → ((x : Refusal) → r ≢ Refused x) → recovery_number r ≡ number_of refusal.Loose → (z : ℕ) × (r ≡ Loose z)
number_loose Recovered n e = absurd (omega (arith, e))
number_loose (Crossed z) n e = absurd (omega (arith, e))
number_loose (Loose z) n e = (z, refl)
number_loose (Refused x) n e = absurd (n x refl)

-- success is 0, crossed 5, loose 6, each in its case and in no other
pub decided_number : {L : Layout} {E v : List ℕ} {r : Recovery} {v' w' : List ℕ} → Decides L E v r v' w' → Numbered L E v (recovery_number r)
decided_number {r = r} d =
    record {
      success_when = (λ e. d.recovered_when.0 (number_success r d.not_refused e), λ s. ap recovery_number (d.recovered_when.1 s));
      crossed_when = (λ e. d.crossed_when.0 (number_crossed r d.not_refused e), λ s. ap recovery_number (d.crossed_when.1 s).1);
      loose_when = (λ e. d.loose_when.0 (number_loose r d.not_refused e), λ s. ap recovery_number (d.loose_when.1 s).1);
    }

module _ (p : Plan) (d v : List ℕ) {r : Check} {v' : List ℕ} (e : Encodes p d v r v') (pass : check_of p (message_lent d v) [] ≡ Ok tt) where
  -- sealing never fails: a call that is not refused is answered Encoded, and no codeword but the block that is left carries its message
  pub encode_always : (r ≡ Ok tt) × Single (λ x. Carries (layout_of p) x d)
  encode_always = (e.encoded pass, record { one = v'; has = e.encoded_to pass; only_one = e.only pass })

  -- encode's number is 0 exactly when one codeword carries the message
  pub encoded_number : (check_number r ≡ 0) ↔ Single (λ x. Carries (layout_of p) x d)
  encoded_number = (λ _. encode_always.1, λ _. ap check_number encode_always.0)

read_zero : (r : Reading) → reading_number r ≡ 0 → r ≡ reading.Read
read_zero reading.Read e = refl
read_zero reading.Crossed e = absurd (omega (arith, e))
read_zero (reading.Refused x) e = absurd (omega (arith, number_some x, e))

-- message_of's number is 0 exactly for codewords
pub read_number : (p : Plan) (v d : List ℕ) {r : Reading} {d' : List ℕ} → Reads p v d r d' → check_of p (message_lent d v) [] ≡ Ok tt →
    ReadBy p v (reading_number r)
read_number p v d {r} e pass = (λ z. (e.read_when pass).0 (read_zero r z), λ s. ap reading_number ((e.read_when pass).1 s))

-- the message count of a plan is the number of its message places
pub message_count_of_lem : (p : Plan) → length (layout_of p).sections * (layout_of p).t - (2 * (layout_of p).t - divisor (layout_of p)) ≡ message_count (layout_of p)
unfolding layout_of layout message_count
message_count_of_lem p = rw (length_up_to p.n)

pub some_section : (p : Plan) → plan_check p ≡ Ok tt → 0 < length (layout_of p).sections
unfolding layout_of layout
some_section p good = rw (length_up_to p.n) (omega (arith, (good_bounds p good).n_min))

pub message_count_is : (p : Plan) → plan_check p ≡ Ok tt → (l : List ℕ) → Lists (Message (layout_of p)) l → length l ≡ message_count (layout_of p)
message_count_is p good l h =
    let m = message_count_lem (layout_of p) (good_valid p good) (some_section p good) in
    ap length (lists_unique h m.1) ∙ m.2 ∙ message_count_of_lem p
