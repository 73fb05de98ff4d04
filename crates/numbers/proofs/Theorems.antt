-- The numbers of the C entries say what Meanings.antt states.
-- Main results: recover_means, encode_means, message_means, fetch_means; never_eleven.
use Rattle.std.specs.Prelude.{◌≡◌, refl, ◌↔◌, ◌≢◌, ◌⊎◌, List, [], ◌∷◌, Ok, Err}
use Rattle.std.proofs.Common.{sym, ◌∙◌, ap, inl, inr, ⊎_elim, arith}
use Rattle.std.proofs.Math.Logic.{by_cases}
use mathlib.Core.List.Memᴰ.{head}
use mathlib.Core.List.Memᴰ.{tail}
use Prim.Native.Nat.{ℕ, zero, suc, ◌<◌}
use Rattle.std.proofs.Math.Decide.{dec_lt}
use Rattle.math.specs.Members.{◌∈◌}
use Rattle.plan.specs.Layout.{layout}
use Rattle.plan.specs.Plans.{layout_of}
use Rattle.plan.specs.declared.Plan.{Plan}
use Rattle.refusals.specs.Refusals.{number_of, check_number, count_value, Check}
use Rattle.refusals.proofs.RefusalLaws.{number_some, number_once, not_eleven, check_not_eleven, check_number_zero, check_number_stop, stop_or_pass}
use Rattle.calls.specs.Calls.{check_of}
use Rattle.calls.proofs.CallsLaws.{few_marks, few_none, also_few}
use Rattle.refusals.specs.declared.Refusal.{Refusal}
use Rattle.answers.specs.Answers.{recovery_number, recovery_count, reading_number}
use Rattle.answers.proofs.AnswerLaws.{recovery_not_eleven, reading_not_eleven}
use Rattle.promises.specs.Promises.{Recovers, recover_lent, Reads, message_lent, fetch_check}
use Rattle.answers.specs.declared.Recovery.{Recovery}
use Rattle.answers.specs.declared.Recovery.TheVariants as recovery
use Rattle.answers.specs.declared.Reading.{Reading}
use Rattle.answers.specs.declared.Reading.TheVariants as reading
use Rattle.figures.proofs.AnswersLaws.{figures_not_eleven}
use Rattle.numbers.specs.Entries.{RecoverOut, EncodeOut, MessageOut, FetchOut}
use Rattle.numbers.specs.Meanings.{RecoverMeans, EncodeMeans, MessageMeans, FetchMeans, Unused}

-- ---- the number of an answer, beside what its call was checked for

-- where the call stops it is the refusal's, 1 to 4; where the call passes it is 0 or past 4
record Told (k : Check) (number : ℕ) : Type 0 where
  stopped : (x : Refusal) → k ≡ Err x → (number ≡ number_of x) × (number_of x < 5)
  passed : k ≡ Ok tt → (number ≡ 0) ⊎ (4 < number)

-- so the number says which
module _ {k : Check} {number : ℕ} (told : Told k number) where
  stops_when : (x : Refusal) → number_of x < 5 → (number ≡ number_of x) ↔ (k ≡ Err x)
  stops_when x h = (
    λ e. ⊎_elim
        (λ q. absurd (⊎_elim (λ z. omega (arith, number_some x, z, e)) (λ z. omega (arith, h, z, e)) (told.passed q)))
        (λ s. s.1 ∙ ap Err (number_once s.0 x (sym (told.stopped s.0 s.1).0 ∙ e)))
        (stop_or_pass k),
    λ e. (told.stopped x e).0,
  )

  passes_when : (number ≡ 0) ⊎ (4 < number) → k ≡ Ok tt
  passes_when h =
      ⊎_elim (λ q. q)
      (λ s.
      let r = told.stopped s.0 s.1 in
      absurd (⊎_elim (λ z. omega (arith, number_some s.0, r.0, z)) (λ z. omega (arith, r.0, r.1, z)) h))
      (stop_or_pass k)

  -- what 0, or a number past 4, says of a call that passes it says of every call
  case_when : {A : Type 0} {n : ℕ} → (n ≡ 0) ⊎ (4 < n) → (k ≡ Ok tt → (number ≡ n) ↔ A) → (number ≡ n) ↔ ((k ≡ Ok tt) × A)
  case_when {n = n} h f = (λ e. let q = passes_when (rw e h) in (q, (f q).0 e), λ s. (f s.0).1 s.1)

  told_in : {l : List ℕ} → ((x : Refusal) → k ≡ Err x → number_of x ∈ l) → (k ≡ Ok tt → number ∈ l) → number ∈ l
  told_in f g = ⊎_elim g (λ s. rw (told.stopped s.0 s.1).0 (f s.0 s.1)) (stop_or_pass k)

in_four : {rest : List ℕ} (k : ℕ) → k < 4 → k ∈ (0 ∷ 1 ∷ 2 ∷ 3 ∷ rest)
in_four zero h = head refl
in_four (suc zero) h = tail (head refl)
in_four (suc (suc zero)) h = tail (tail (head refl))
in_four (suc (suc (suc zero))) h = tail (tail (tail (head refl)))
in_four (suc (suc (suc (suc k)))) h = absurd (omega (arith, h))

in_five : {rest : List ℕ} (k : ℕ) → k < 5 → k ∈ (0 ∷ 1 ∷ 2 ∷ 3 ∷ 4 ∷ rest)
in_five k h = by_cases (dec_lt k 4) (in_four k) (λ n. tail (tail (tail (tail (head (omega arith))))))

-- ---- recover

-- an answer to a call that passes
recovery_passed : (a : Recovery) → ((x : Refusal) → a ≢ recovery.Refused x) →
    (recovery_number a ∈ (0 ∷ 1 ∷ 2 ∷ 3 ∷ 4 ∷ 5 ∷ 6 ∷ [])) × ((recovery_number a ≡ 0) ⊎ (4 < recovery_number a))
recovery_passed recovery.Recovered o = (head refl, inl refl)
recovery_passed (recovery.Crossed z) o = (tail (tail (tail (tail (tail (head refl))))), inr (omega arith))
recovery_passed (recovery.Loose z) o = (tail (tail (tail (tail (tail (tail (head refl)))))), inr (omega arith))
recovery_passed (recovery.Refused x) o = absurd (o x refl)

module _ {p : Plan} {v m w : List ℕ} {r : Recovery} {v' w' : List ℕ} (f : Recovers p v m w r v' w') where
  recover_told : Told (check_of p (recover_lent v m w) m) (recovery_number r)
  recover_told = record {
    stopped = λ x e. (ap recovery_number (f.refused x e).0, few_marks p (recover_lent v m w) m e);
    passed = λ q. (recovery_passed r (f.passed q).not_refused).1;
  }

  recovered_means : RecoverMeans p v m w (recovery_number r) (recovery_count r) v' w'
  unfolding layout_of layout
  recovered_means =
      let zero = case_when recover_told (inl refl) (λ q. (f.passed q).number.success_when) in
      let five = case_when recover_told (inr (omega arith)) (λ q. (f.passed q).number.crossed_when) in
      let six = case_when recover_told (inr (omega arith)) (λ q. (f.passed q).number.loose_when) in
      record {
        numbers = told_in recover_told (λ x e. in_five (number_of x) (recover_told.stopped x e).1) (λ q. (recovery_passed r (f.passed q).not_refused).0);
        refused_when = stops_when recover_told;
        refused_leaves = λ x l e. let s = f.refused x ((stops_when recover_told x l).0 e) in (ap recovery_count s.0, s.1, s.2);
        zero_when = zero;
        zero_leaves = λ e.
            let d = f.passed (zero.0 e).0 in
            let a = d.recovered_when.1 (zero.0 e).1 in
            (ap recovery_count a, d.recovered_to a, (d.recovered_list a).0);
        five_when = five;
        five_leaves = λ e.
            let d = f.passed (five.0 e).0 in
            let a = d.crossed_when.1 (five.0 e).1 in
            (d.crossed_keeps a.0 a.1, d.crossed_shows a.0 a.1);
        six_when = six;
        six_leaves = λ e.
            let d = f.passed (six.0 e).0 in
            let a = d.loose_when.1 (six.0 e).1 in
            (d.loose_keeps a.0 a.1, d.loose_shows a.0 a.1);
      }

pub recover_means : {p : Plan} {v m w : List ℕ} {number count : ℕ} {v' w' : List ℕ} → RecoverOut p v m w number count v' w' → RecoverMeans p v m w number count v' w'
recover_means h = rw (h.number_is, h.count_is) (recovered_means h.keeps)

-- ---- encode and fetch: done, or refused

-- the number is that of what was checked, and says which
module _ {k : Check} {number : ℕ} (e : number ≡ check_number k) where
  checked_stops : (x : Refusal) → (number ≡ number_of x) ↔ (k ≡ Err x)
  checked_stops x = (λ q. check_number_stop k x (sym e ∙ q), λ q. e ∙ ap check_number q)

  checked_passes : (number ≡ 0) ↔ (k ≡ Ok tt)
  checked_passes = (λ q. check_number_zero k (sym e ∙ q), λ q. e ∙ ap check_number q)

  checked_in : {l : List ℕ} → 0 ∈ l → ((x : Refusal) → k ≡ Err x → number_of x ∈ l) → number ∈ l
  checked_in z f = ⊎_elim (λ q. rw (checked_passes.1 q) z) (λ s. rw ((checked_stops s.0).1 s.1) (f s.0 s.1)) (stop_or_pass k)

pub encode_means : {p : Plan} {d v : List ℕ} {number : ℕ} {v' : List ℕ} → EncodeOut p d v number v' → EncodeMeans p d v number v'
encode_means {p} {d} {v} h =
    let f = h.keeps in
    let checked = h.number_is ∙ f.number in
    record {
      numbers = checked_in checked (head refl) (λ x e. in_four (number_of x) (few_none p (message_lent d v) e));
      refused_when = checked_stops checked;
      zero_when = checked_passes checked;
      zero_leaves = λ e. let q = (checked_passes checked).0 e in (f.encoded_to q, f.only q);
      else_keeps = λ o. ⊎_elim (λ q. absurd (o ((checked_passes checked).1 q))) (λ s. (f.refused s.0 s.1).1) (stop_or_pass (check_of p (message_lent d v) []));
    }

fetch_few : (p : Plan) (m l : List ℕ) {x : Refusal} → fetch_check p m l ≡ Err x → number_of x < 5
unfolding fetch_check
fetch_few p m l e = also_few p _ m _ e

pub fetch_means : {p : Plan} {m l : List ℕ} {number count : ℕ} {l' : List ℕ} → FetchOut p m l number count l' → FetchMeans p m l number count l'
fetch_means {p} {m} {l} h =
    let f = h.keeps in
    let checked = h.number_is ∙ f.number in
    record {
      numbers = checked_in checked (head refl) (λ x e. in_five (number_of x) (fetch_few p m l e));
      refused_when = λ x _. checked_stops checked x;
      refused_leaves = λ x _ e. let s = f.refused x ((checked_stops checked x).0 e) in (h.count_is ∙ ap count_value s.0, s.1);
      zero_when = checked_passes checked;
      zero_leaves = λ e. rw h.count_is (f.listed ((checked_passes checked).0 e));
    }

-- ---- message_of

reading_ends : (a : Reading) → ((x : Refusal) → a ≢ reading.Refused x) → (a ≡ reading.Read) ⊎ (a ≡ reading.Crossed)
reading_ends reading.Read o = inl refl
reading_ends reading.Crossed o = inr refl
reading_ends (reading.Refused x) o = absurd (o x refl)

module _ {p : Plan} {v d : List ℕ} {r : Reading} {d' : List ℕ} (f : Reads p v d r d') where
  -- a call that passes is answered 0 or 5
  read_cases : {A : Type 0} → check_of p (message_lent d v) [] ≡ Ok tt → (r ≡ reading.Read → A) → (r ≡ reading.Crossed → A) → A
  read_cases q a b = ⊎_elim a b (reading_ends r (f.not_refused q))

  read_told : Told (check_of p (message_lent d v) []) (reading_number r)
  read_told = record {
    stopped = λ x e. (ap reading_number (f.refused x e).0, omega (arith, few_none p (message_lent d v) e));
    passed = λ q. read_cases q (λ e. inl (ap reading_number e)) (λ e. inr (omega (arith, ap reading_number e)));
  }

  read_means : MessageMeans p v d (reading_number r) d'
  read_means =
      let zero = case_when read_told (inl refl) f.number in
      record {
        numbers = told_in read_told (λ x e. in_four (number_of x) (few_none p (message_lent d v) e))
            (λ q. read_cases q (λ e. head (ap reading_number e)) (λ e. tail (tail (tail (tail (head (ap reading_number e)))))));
        refused_when = stops_when read_told;
        zero_when = zero;
        zero_leaves = λ e. let s = zero.0 e in f.read_to s.0 ((f.read_when s.0).1 s.1);
        five_when = case_when read_told (inr (omega arith))
            (λ q. (λ e. read_cases q (λ a. absurd (omega (arith, ap reading_number a, e))) (f.crossed_when q).0, λ n. ap reading_number ((f.crossed_when q).1 n)));
        else_keeps = λ o. ⊎_elim (λ q. read_cases q (λ a. absurd (o (ap reading_number a))) f.crossed_keeps) (λ s. (f.refused s.0 s.1).1)
            (stop_or_pass (check_of p (message_lent d v) []));
      }

pub message_means : {p : Plan} {v d : List ℕ} {number : ℕ} {d' : List ℕ} → MessageOut p v d number d' → MessageMeans p v d number d'
message_means h = rw h.number_is (read_means h.keeps)

-- ---- the number that is struck

-- Document 02, N4: "the number isn't used again"
pub never_eleven : Unused 11
never_eleven = record {
  refusal = not_eleven;
  check = check_not_eleven;
  made = check_not_eleven;
  recovery = recovery_not_eleven;
  reading = reading_not_eleven;
  count = check_not_eleven;
  figures = figures_not_eleven;
}
