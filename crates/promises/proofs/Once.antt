-- The promises fix everything: two outcomes that keep the same promise on the same input are equal. No bound on any entry of a buffer is needed.
-- That an answer to a call that passes is no refusal follows from the other fields; these laws say so and do not use `not_refused`. Nor do they use `number` or `only`, which follow too.
-- Main results: recovers_once, encodes_once, reads_once, fetches_once; decides_not_refused, encodes_not_refused, reads_not_refused; encodes_number, fetches_number.
use Rattle.std.specs.Prelude.{◌≡◌, refl, ◌≢◌, List, [], ℕ, Ok, Err, Result}
use Rattle.std.proofs.Common.{sym, ◌∙◌, ap, ⊎_elim}
use Rattle.plan.specs.Layout.{Layout, Valid}
use Rattle.plan.specs.Plans.{layout_of}
use Rattle.plan.specs.declared.Plan.{Plan}
use Rattle.code.specs.Codewords.{Agrees, Single, TwoOrMore, None}
use Rattle.code.proofs.Theorems.{forest_or_cycle, forest_unique, two, carries_one, fetch_bits_once}
use Rattle.code.specs.Laws.Forest.{Erased}
use Rattle.code.proofs.Laws.MarksLaws.{erasures_erased}
use Rattle.calls.specs.Calls.{check_of}
use Rattle.refusals.proofs.RefusalLaws.{stop_or_pass}
use Rattle.refusals.specs.declared.Refusal.{Refusal}
use Rattle.refusals.specs.Refusals.{Check, count_value, number_of, check_number}
use Rattle.answers.specs.declared.Recovery.{Recovery}
use Rattle.answers.specs.declared.Recovery.TheVariants.{Recovered, Crossed, Loose, Refused}
use Rattle.answers.specs.declared.Reading.{Reading}
use Rattle.answers.specs.declared.Reading.TheVariants as reading
use Rattle.promises.specs.Promises.{Decides, Recovers, recover_lent, Encodes, Reads, message_lent, Fetches, fetch_check}
use Rattle.promises.proofs.Building
use Rattle.promises.proofs.Theorems.{decides_same}

-- ---- recover

module _ {L : Layout} (ok : Valid L) {E v : List ℕ} (er : Erased L E) where
  -- a codeword that agrees is the only one, or there are two
  one_or_two : {x : List ℕ} → Agrees L E v x → ¬ (Single (Agrees L E v)) → ¬ (TwoOrMore (Agrees L E v)) → ⊥
  one_or_two {x} a one more =
      ⊎_elim
      (λ f. one (record { one = x; has = a; only_one = λ y b. forest_unique L ok E v y x er f b a }))
      (λ c. more (two L ok E v x c.0 er c.1 a))
      (forest_or_cycle L ok E er)

  -- one, two or more, or none: no answer is left for a refusal
  pub decides_not_refused : {r : Recovery} {v' w' : List ℕ} → Decides L E v r v' w' → (x : Refusal) → r ≢ Refused x
  decides_not_refused {r} d x e =
      let none : None (Agrees L E v) = λ y a.
      one_or_two a (λ s. Building.recovered_not_refused (sym (d.recovered_when.1 s) ∙ e))
      (λ t. Building.loose_not_refused (sym (d.loose_when.1 t).1 ∙ e)) in
      Building.crossed_not_refused (sym (d.crossed_when.1 none).1 ∙ e)

  -- the block too is one: a refused block is kept
  pub decides_once : {r s : Recovery} {v' w' x' y' : List ℕ} → Decides L E v r v' w' → Decides L E v s x' y' → (r ≡ s) × (v' ≡ x') × (w' ≡ y')
  decides_once {r} {s} {v'} {w'} {x'} {y'} d f = (same.0, go r refl, same.1)
    where
      same : (r ≡ s) × (w' ≡ y') × (r ≡ Recovered → v' ≡ x')
      same = decides_same L ok er (record { same = λ c h n. refl }) d f

      go : (k : Recovery) → r ≡ k → v' ≡ x'
      go Recovered e = same.2 e
      go (Loose z) e = d.loose_keeps z e ∙ sym (f.loose_keeps z (sym same.0 ∙ e))
      go (Crossed z) e = d.crossed_keeps z e ∙ sym (f.crossed_keeps z (sym same.0 ∙ e))
      go (Refused x) e = absurd (decides_not_refused d x e)

-- the answer, the block and the witness list
pub recovers_once : (p : Plan) (v m w : List ℕ) {r s : Recovery} {v' w' x' y' : List ℕ} → Recovers p v m w r v' w' → Recovers p v m w s x' y' →
    (r ≡ s) × (v' ≡ x') × (w' ≡ y')
recovers_once p v m w f g =
    ⊎_elim
    (λ pass. decides_once (Building.pass_valid p (recover_lent v m w) m pass) (erasures_erased (layout_of p) m) (f.passed pass) (g.passed pass))
    (λ stop.
    let a = f.refused stop.0 stop.1 in
    let b = g.refused stop.0 stop.1 in
    (a.0 ∙ sym b.0, a.1 ∙ sym b.1, a.2 ∙ sym b.2))
    (stop_or_pass (check_of p (recover_lent v m w) m))

-- a call that stops has one outcome; so the one that passes settles it
stop_once : (k : Check) {A : Type 0} {refused : Refusal → A} {b : List ℕ} {r s : A} {b' c' : List ℕ} → ((x : Refusal) → k ≡ Err x → (r ≡ refused x) × (b' ≡ b)) →
    ((x : Refusal) → k ≡ Err x → (s ≡ refused x) × (c' ≡ b)) → (k ≡ Ok tt → (r ≡ s) × (b' ≡ c')) → (r ≡ s) × (b' ≡ c')
stop_once (Ok tt) f g pass = pass refl
stop_once (Err x) f g pass = ((f x refl).0 ∙ sym (g x refl).0, (f x refl).1 ∙ sym (g x refl).1)

-- 01's number of an answer that is done or refused follows from these cases
number_by : (k : Check) {A : Type 0} (num : A → ℕ) {refused : Refusal → A} {r : A} → ((x : Refusal) → num (refused x) ≡ number_of x) →
    ((x : Refusal) → k ≡ Err x → r ≡ refused x) → (k ≡ Ok tt → num r ≡ 0) → num r ≡ check_number k
number_by (Ok tt) num n stop pass = pass refl
number_by (Err x) num n stop pass = ap num (stop x refl) ∙ n x

-- ---- encode

-- the answer and the block
pub encodes_once : (p : Plan) (d v : List ℕ) {r s : Check} {v' x' : List ℕ} → Encodes p d v r v' → Encodes p d v s x' → (r ≡ s) × (v' ≡ x')
encodes_once p d v {v' = v'} f g =
    stop_once (check_of p (message_lent d v) []) f.refused g.refused
    (λ pass. (
      f.encoded pass ∙ sym (g.encoded pass),
      Building.no_other_carries p (Building.pass_valid p (message_lent d v) [] pass) (g.encoded_to pass) v' (f.encoded_to pass),
    ))

pub encodes_not_refused : (p : Plan) (d v : List ℕ) {r : Check} {v' : List ℕ} → Encodes p d v r v' → check_of p (message_lent d v) [] ≡ Ok tt → (x : Refusal) → r ≢ Err x
encodes_not_refused p d v f pass x e = let q = f.encoded pass in Building.zero_one (cc)

pub encodes_number : (p : Plan) (d v : List ℕ) {r : Check} {v' : List ℕ} →
    ((x : Refusal) → check_of p (message_lent d v) [] ≡ Err x → (r ≡ Err x) × (v' ≡ v)) →
    (check_of p (message_lent d v) [] ≡ Ok tt → r ≡ Ok tt) → check_number r ≡ check_number (check_of p (message_lent d v) [])
encodes_number p d v stop pass = number_by (check_of p (message_lent d v) []) check_number (λ x. refl) (λ x e. (stop x e).0) (λ q. ap check_number (pass q))

-- ---- message_of

module _ (p : Plan) (v d : List ℕ) (pass : check_of p (message_lent d v) [] ≡ Ok tt) where
  -- a block is a codeword or none
  pub reads_not_refused : {r : Reading} {d' : List ℕ} → Reads p v d r d' → (x : Refusal) → r ≢ reading.Refused x
  reads_not_refused {r} f x e =
      let q = (f.crossed_when pass).1 (λ h. let k = (f.read_when pass).1 h in Building.zero_one (cc)) in
      Building.zero_one (cc)

  reads_pass : (r : Reading) {s : Reading} {d' e' : List ℕ} → Reads p v d r d' → Reads p v d s e' → (r ≡ s) × (d' ≡ e')
  reads_pass reading.Read f g =
      let h = (f.read_when pass).0 refl in
      let e = (g.read_when pass).1 h in
      let one = carries_one (layout_of p) (Building.pass_valid p (message_lent d v) [] pass) v h in
      (sym e, one.only_one _ (f.read_to pass refl) ∙ sym (one.only_one _ (g.read_to pass e)))
  reads_pass reading.Crossed f g =
      let e = (g.crossed_when pass).1 ((f.crossed_when pass).0 refl) in
      (sym e, f.crossed_keeps refl ∙ sym (g.crossed_keeps e))
  reads_pass (reading.Refused x) f g = absurd (reads_not_refused f x refl)

-- the answer and the message
pub reads_once : (p : Plan) (v d : List ℕ) {r s : Reading} {d' e' : List ℕ} → Reads p v d r d' → Reads p v d s e' → (r ≡ s) × (d' ≡ e')
reads_once p v d {r} f g = stop_once (check_of p (message_lent d v) []) f.refused g.refused (λ pass. reads_pass p v d pass r f g)

-- ---- fetch

-- the answer and the list
pub fetches_once : (p : Plan) (m l : List ℕ) {r s : (Result ℕ Refusal)} {l' k' : List ℕ} → Fetches p m l r l' → Fetches p m l s k' → (r ≡ s) × (l' ≡ k')
fetches_once p m l {r} {s} f g =
    stop_once (fetch_check p m l) f.refused g.refused
    (λ pass.
    let a = (f.fetched pass).1 in
    let b = (g.fetched pass).1 in
    let e = fetch_bits_once (f.listed pass) (g.listed pass) in
    (a ∙ ap Ok (sym (ap count_value a) ∙ e.1 ∙ ap count_value b) ∙ sym b, e.0))

pub fetches_number : (p : Plan) (m l : List ℕ) {r : (Result ℕ Refusal)} {l' : List ℕ} → ((x : Refusal) → fetch_check p m l ≡ Err x → (r ≡ Err x) × (l' ≡ l)) →
    (fetch_check p m l ≡ Ok tt → (z : ℕ) × (r ≡ Ok z)) → check_number r ≡ check_number (fetch_check p m l)
fetches_number p m l stop pass = number_by (fetch_check p m l) check_number (λ x. refl) (λ x e. (stop x e).0) (λ q. ap check_number (pass q).1)
