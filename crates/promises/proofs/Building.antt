-- How an answer keeps its promise: each outcome of recover, encode, message_of and fetch with what it has to show.
-- Main results: decides_recovered, decides_loose, decides_crossed, decided_forest; recovers_refused, recovers_passed; encodes_refused, encodes_done;
-- reads_refused, reads_read, reads_crossed; fetches_refused, fetches_fetched.
use Rattle.std.specs.Prelude.{◌≡◌, refl, ◌≢◌, true, List, [], ◌∷◌, map, ℕ, zero, suc, ◌+◌, ◌-◌, ◌*◌, ◌/◌, ◌≤◌, ◌<◌, length, replicate, Ok, Err}
use Rattle.std.proofs.Common.{sym, ◌∙◌, ap, div-lt_iff_lt-mul, arith, ext_get_or, take_all}
use borrow.Author.Tests.{eq-eqb}
use Rattle.math.specs.Members.{◌∈◌}
use Rattle.math.specs.MembersLaws.{∈_up_to}
use Rattle.plan.specs.Layout.{Layout, Valid, layout, message_count}
use Rattle.plan.specs.Plans.{layout_of, plan_check}
use Rattle.plan.proofs.PlanLaws.{good_valid}
use Rattle.plan.specs.declared.Plan.{Plan}
use Rattle.code.specs.Places.{places}
use Rattle.code.specs.Codewords.{at, Codeword, Agrees, Single, TwoOrMore, None}
use Rattle.code.specs.Marks.{mark_bytes, mark_count, NoSpare, erasures}
use Rattle.code.specs.Cycles.{Cycle}
use Rattle.code.specs.Components.{Inconsistent}
use Rattle.code.specs.Messages.{Carries}
use Rattle.code.specs.FetchList.{FetchBits}
use Rattle.code.proofs.Theorems.{crossed, two, single_forest}
use Rattle.code.specs.Laws.Forest.{Erased, Forest}
use Rattle.code.proofs.Laws.Basics.{∈_places}
use Rattle.code.proofs.Laws.Decide.{none_agrees}
use Rattle.code.proofs.Laws.Carrying.{carried_same}
use Rattle.code.proofs.Laws.MarksLaws.{mark_count_zero}
use Rattle.code.specs.Laws.ParityCount.{messages}
use Rattle.code.proofs.Laws.ParityCount.{message_lists}
use Rattle.calls.specs.Calls.{check_of, count_lent, lengths_fit, spare_clear, none_from}
use Rattle.calls.proofs.CallsLaws.{pass_good, pass_lengths, passes}
use Rattle.calls.specs.declared.Lent.{Lent}
use Rattle.refusals.specs.declared.Refusal.{Refusal}
use Rattle.refusals.specs.Refusals.{Check, check_number}
use Rattle.answers.specs.declared.Recovery.{Recovery}
use Rattle.answers.specs.declared.Recovery.TheVariants.{Recovered, Crossed, Loose, Refused}
use Rattle.answers.specs.declared.Reading.TheVariants as reading
use Rattle.math.specs.Padded.{padded}
use Rattle.promises.specs.Promises.{Decides, Recovers, recover_lent, Encodes, Reads, message_lent, Fetches, fetch_check}

-- 0 is not 1
pub zero_one : ◌≡◌ {A = ℕ} 0 1 → ⊥
zero_one e = omega arith

-- a single thing, two things, none: no two of these at once
pub single_not_two : {A : Type 0} {P : A → Type 0} → Single P → ¬ (TwoOrMore P)
single_not_two s d = d.differ (s.only_one d.one d.has ∙ sym (s.only_one d.other d.other_has))

pub single_not_none : {A : Type 0} {P : A → Type 0} → Single P → ¬ (None P)
single_not_none s n = n s.one s.has

pub two_not_none : {A : Type 0} {P : A → Type 0} → TwoOrMore P → ¬ (None P)
two_not_none d n = n d.one d.has

-- a check does not both pass and stop
pub not_both : {k : Check} {x : Refusal} → k ≡ Ok tt → k ≡ Err x → ⊥
not_both p q = zero_one (cc)

-- the answers of recover are told apart
pub recovered_not_loose : {z : ℕ} → Recovered ≢ Loose z
recovered_not_loose e = zero_one (cc)

pub recovered_not_crossed : {z : ℕ} → Recovered ≢ Crossed z
recovered_not_crossed e = zero_one (cc)

pub recovered_not_refused : {x : Refusal} → Recovered ≢ Refused x
recovered_not_refused e = zero_one (cc)

-- what is recovered are the erasures of a forest
pub decided_forest : {L : Layout} {E v v' w : List ℕ} {r : Recovery} → Valid L → Erased L E → Decides L E v r v' w → r ≡ Recovered → Forest L E
decided_forest {L} {E} {v} ok er d e = single_forest L ok E v er (d.recovered_when.0 e)

pub loose_not_crossed : {y z : ℕ} → Loose y ≢ Crossed z
loose_not_crossed e = zero_one (cc)

pub loose_not_refused : {z : ℕ} {x : Refusal} → Loose z ≢ Refused x
loose_not_refused e = zero_one (cc)

pub crossed_not_refused : {z : ℕ} {x : Refusal} → Crossed z ≢ Refused x
crossed_not_refused e = zero_one (cc)

module _ {L : Layout} {E v : List ℕ} where
  -- the block found is the only one that agrees
  pub decides_recovered : {v' w' : List ℕ} → Agrees L E v v' → ((x : List ℕ) → Agrees L E v x → x ≡ v') → w' ≡ replicate (2 * L.t) 0 →
      Decides L E v Recovered v' w'
  decides_recovered {v'} a u e =
      let s : Single (Agrees L E v) = record { one = v'; has = a; only_one = u } in
      record {
        recovered_when = (λ _. s, λ _. refl);
        recovered_to = λ _. a;
        recovered_list = λ _. (e, refl);
        loose_when = (λ q. absurd (recovered_not_loose q.1), λ d. absurd (single_not_two s d));
        loose_keeps = λ z q. absurd (recovered_not_loose q);
        loose_shows = λ z q. absurd (recovered_not_loose q);
        crossed_when = (λ q. absurd (recovered_not_crossed q.1), λ n. absurd (single_not_none s n));
        crossed_keeps = λ z q. absurd (recovered_not_crossed q);
        crossed_shows = λ z q. absurd (recovered_not_crossed q);
        not_refused = λ x q. recovered_not_refused q;
        number = record {
          success_when = (λ _. s, λ _. refl);
          crossed_when = (λ q. absurd (omega (arith, q)), λ n. absurd (single_not_none s n));
          loose_when = (λ q. absurd (omega (arith, q)), λ d. absurd (single_not_two s d));
        };
      }

module _ {L : Layout} (ok : Valid L) {E v : List ℕ} (er : Erased L E) where
  -- some block agrees, and there is a cycle: the one whose lowest place is highest is shown
  pub decides_loose : {l w' : List ℕ} → Cycle L E l → ((k : List ℕ) → Cycle L E k → at k 0 ≤ at l 0) → (x : List ℕ) × Agrees L E v x →
      w' ≡ padded (2 * L.t) l → Decides L E v (Loose (length l)) v w'
  decides_loose {l} c highest a e =
      let d = two L ok E v a.0 l er c a.1 in
      record {
        recovered_when = (λ q. absurd (recovered_not_loose (sym q)), λ s. absurd (single_not_two s d));
        recovered_to = λ q. absurd (recovered_not_loose (sym q));
        recovered_list = λ q. absurd (recovered_not_loose (sym q));
        loose_when = (λ _. d, λ _. (length l, refl));
        loose_keeps = λ z q. refl;
        loose_shows = λ z q. (l, c, refl, e, highest);
        crossed_when = (λ q. absurd (loose_not_crossed q.1), λ n. absurd (two_not_none d n));
        crossed_keeps = λ z q. absurd (loose_not_crossed q);
        crossed_shows = λ z q. absurd (loose_not_crossed q);
        not_refused = λ x q. loose_not_refused q;
        number = record {
          success_when = (λ q. absurd (omega (arith, q)), λ s. absurd (single_not_two s d));
          crossed_when = (λ q. absurd (omega (arith, q)), λ n. absurd (two_not_none d n));
          loose_when = (λ _. d, λ _. refl);
        };
      }

  -- the lowest component that does not add up to 0 is shown
  pub decides_crossed : {l w' : List ℕ} → Inconsistent L E (at v) l → w' ≡ padded (2 * L.t) l → Decides L E v (Crossed (length l)) v w'
  decides_crossed {l} bad e =
      let n = none_agrees L ok E v l er bad in
      record {
        recovered_when = (λ q. absurd (recovered_not_crossed (sym q)), λ s. absurd (single_not_none s n));
        recovered_to = λ q. absurd (recovered_not_crossed (sym q));
        recovered_list = λ q. absurd (recovered_not_crossed (sym q));
        loose_when = (λ q. absurd (loose_not_crossed (sym q.1)), λ d. absurd (two_not_none d n));
        loose_keeps = λ z q. absurd (loose_not_crossed (sym q));
        loose_shows = λ z q. absurd (loose_not_crossed (sym q));
        crossed_when = (λ _. n, λ _. (length l, refl));
        crossed_keeps = λ z q. refl;
        crossed_shows = λ z q. (l, bad, refl, e, crossed L ok E er (at v) l bad.component bad.unbalanced);
        not_refused = λ x q. crossed_not_refused q;
        number = record {
          success_when = (λ q. absurd (omega (arith, q)), λ s. absurd (single_not_none s n));
          crossed_when = (λ _. n, λ _. refl);
          loose_when = (λ q. absurd (omega (arith, q)), λ d. absurd (two_not_none d n));
        };
      }

pub recovers_refused : (p : Plan) (v m w : List ℕ) {x : Refusal} → check_of p (recover_lent v m w) m ≡ Err x → Recovers p v m w (Refused x) v w
recovers_refused p v m w {x} stop = record {
  refused = λ y q. let e : Refused x ≡ Refused y = cc in (e, refl, refl);
  passed = λ q. absurd (not_both q stop);
}

pub recovers_passed : (p : Plan) (v m w : List ℕ) {r : Recovery} {v' w' : List ℕ} → check_of p (recover_lent v m w) m ≡ Ok tt →
    Decides (layout_of p) (erasures (layout_of p) m) v r v' w' → Recovers p v m w r v' w'
recovers_passed p v m w pass d = record {
  refused = λ x q. absurd (not_both pass q);
  passed = λ _. d;
}

-- a call that passes has a valid layout, in which every section takes part
pub pass_valid : (p : Plan) (lent : Lent) (m : List ℕ) → check_of p lent m ≡ Ok tt → Valid (layout_of p)
pass_valid p lent m e = good_valid p (pass_good p lent m e)

pub plan_places : (p : Plan) → Valid (layout_of p) → {c : ℕ} → c < (layout_of p).n * (layout_of p).t → c ∈ places (layout_of p)
unfolding layout_of layout
plan_places p ok h = ∈_places (layout_of p) h (∈_up_to ((div-lt_iff_lt-mul ok.positive).1 h))

-- the lengths of a call that passes
pub recover_lengths : (p : Plan) (v m w : List ℕ) → check_of p (recover_lent v m w) m ≡ Ok tt →
    (length v ≡ (layout_of p).n * (layout_of p).t) × (length m ≡ mark_bytes (layout_of p)) × (length w ≡ 2 * (layout_of p).t)
unfolding recover_lent layout_of layout mark_bytes
recover_lengths p v m w e =
    let l = pass_lengths p (recover_lent v m w) m e in
    (l.block (length v) refl, l.marks (length m) refl, l.witness (length w) refl)

pub message_lengths : (p : Plan) (d v : List ℕ) → check_of p (message_lent d v) [] ≡ Ok tt →
    (length v ≡ (layout_of p).n * (layout_of p).t) × (length d ≡ message_count (layout_of p))
unfolding message_lent layout_of layout
message_lengths p d v e =
    let l = pass_lengths p (message_lent d v) [] e in
    (l.block (length v) refl, l.message (length d) refl)

-- marks of the plan's length, or none at all, of which no spare bit is 1 pass the last test
pub clear_spare : (p : Plan) (m : List ℕ) → length m ≤ mark_bytes (layout_of p) → NoSpare (layout_of p) m → spare_clear (p.n * p.t) m ≡ true
unfolding spare_clear none_from NoSpare layout_of layout mark_bytes
clear_spare p m l spare =
    let whole = take_all ((p.n * p.t + 7) / 8) m (omega (arith, l)) in
    rw whole (eq-eqb (mark_count m (p.n * p.t) (8 * length m - p.n * p.t)) 0
    (mark_count_zero m (p.n * p.t) (8 * length m - p.n * p.t) (λ k h l. spare k h (omega arith))))

-- a call of recover passes where the plan is good, the lengths are the plan's and no spare bit is 1
pub recover_passes : (p : Plan) (v m w : List ℕ) → plan_check p ≡ Ok tt → length v ≡ (layout_of p).n * (layout_of p).t →
    length m ≡ mark_bytes (layout_of p) → length w ≡ 2 * (layout_of p).t → NoSpare (layout_of p) m → check_of p (recover_lent v m w) m ≡ Ok tt
recover_passes p v m w good a b c spare = sym (passes p (recover_lent v m w) m good fits (clear_spare p m (omega (arith, b)) spare))
  where
    fits : lengths_fit p.n p.t (message_count (layout_of p)) (recover_lent v m w) ≡ true
    fits = unfold lengths_fit recover_lent layout_of layout mark_bytes in
        simp (eq-eqb (length v) (p.n * p.t) a, eq-eqb (length m) ((p.n * p.t + 7) / 8) b, eq-eqb (length w) (2 * p.t) c)

-- and the same of the marks alone
pub count_passes : (p : Plan) (m : List ℕ) → plan_check p ≡ Ok tt → length m ≡ mark_bytes (layout_of p) → NoSpare (layout_of p) m → check_of p (count_lent m) m ≡ Ok tt
count_passes p m good long spare = sym (passes p (count_lent m) m good fits (clear_spare p m (omega (arith, long)) spare))
  where
    fits : lengths_fit p.n p.t (message_count (layout_of p)) (count_lent m) ≡ true
    fits = unfold lengths_fit count_lent layout_of layout mark_bytes in simp (eq-eqb (length m) ((p.n * p.t + 7) / 8) long)

-- no other codeword of a plan carries the message
pub no_other_carries : (p : Plan) → Valid (layout_of p) → {w d : List ℕ} → Carries (layout_of p) w d → (x : List ℕ) → Carries (layout_of p) x d → x ≡ w
no_other_carries p ok {w} {d} a x q =
    ext_get_or 0 x w (q.codeword.whole ∙ sym a.codeword.whole)
    (λ c h. carried_same (layout_of p) ok d x w q a c (plan_places p ok (rw q.codeword.whole at h)))

pub encodes_refused : (p : Plan) (d v : List ℕ) {x : Refusal} → check_of p (message_lent d v) [] ≡ Err x → Encodes p d v (Err x) v
encodes_refused p d v {x} stop = record {
  refused = λ y q. let e : Err x ≡ Err y = cc in (e, refl);
  encoded = λ q. absurd (not_both q stop);
  encoded_to = λ q. absurd (not_both q stop);
  only = λ q. absurd (not_both q stop);
  number = sym (ap check_number stop);
}

pub encodes_done : (p : Plan) (d v : List ℕ) {v' : List ℕ} → check_of p (message_lent d v) [] ≡ Ok tt → Carries (layout_of p) v' d →
    Encodes p d v (Ok tt) v'
encodes_done p d v pass a = record {
  refused = λ x q. absurd (not_both pass q);
  encoded = λ _. refl;
  encoded_to = λ _. a;
  only = λ _. no_other_carries p (pass_valid p (message_lent d v) [] pass) a;
  number = sym (ap check_number pass);
}

pub reads_refused : (p : Plan) (v d : List ℕ) {x : Refusal} → check_of p (message_lent d v) [] ≡ Err x → Reads p v d (reading.Refused x) d
reads_refused p v d {x} stop = record {
  refused = λ y q. let e : reading.Refused x ≡ reading.Refused y = cc in (e, refl);
  read_when = λ q. absurd (not_both q stop);
  read_to = λ q. absurd (not_both q stop);
  crossed_when = λ q. absurd (not_both q stop);
  crossed_keeps = λ _. refl;
  not_refused = λ q. absurd (not_both q stop);
  number = λ q. absurd (not_both q stop);
}

-- symbols of a block of bytes are bytes
pub map_bytes : (v : List ℕ) → ((c : ℕ) → at v c < 256) → (l : List ℕ) (i : ℕ) → at (map (at v) l) i < 256
map_bytes v h [] i = omega arith
map_bytes v h (c ∷ l) zero = h c
map_bytes v h (c ∷ l) (suc i) = map_bytes v h l i

-- the symbols at the message places are what a codeword carries
pub carries_own : {L : Layout} → Valid L → {v d : List ℕ} → Codeword L v → d ≡ map (at v) (messages L) → Carries L v d
carries_own {L} ok h e = record { codeword = h; where_to = messages L; message_places = message_lists L ok; symbols = e }

pub reads_read : (p : Plan) (v d : List ℕ) {d' : List ℕ} → check_of p (message_lent d v) [] ≡ Ok tt → Codeword (layout_of p) v →
    d' ≡ map (at v) (messages (layout_of p)) → Reads p v d reading.Read d'
reads_read p v d pass h e = record {
  refused = λ x q. absurd (not_both pass q);
  read_when = λ _. (λ _. h, λ _. refl);
  read_to = λ _ _. carries_own (pass_valid p (message_lent d v) [] pass) h e;
  crossed_when = λ _. (λ q. absurd (zero_one (cc)), λ n. absurd (n h));
  crossed_keeps = λ q. absurd (zero_one (cc));
  not_refused = λ _ x q. zero_one (cc);
  number = λ _. (λ _. h, λ _. refl);
}

pub reads_crossed : (p : Plan) (v d : List ℕ) → check_of p (message_lent d v) [] ≡ Ok tt → ¬ (Codeword (layout_of p) v) → Reads p v d reading.Crossed d
reads_crossed p v d pass n = record {
  refused = λ x q. absurd (not_both pass q);
  read_when = λ _. (λ q. absurd (zero_one (cc)), λ h. absurd (n h));
  read_to = λ _ q. absurd (zero_one (cc));
  crossed_when = λ _. (λ _. n, λ _. refl);
  crossed_keeps = λ _. refl;
  not_refused = λ _ x q. zero_one (cc);
  number = λ _. (λ q. absurd (omega (arith, q)), λ h. absurd (n h));
}

-- ---- fetch

pub fetches_refused : (p : Plan) (m l : List ℕ) {x : Refusal} → fetch_check p m l ≡ Err x → Fetches p m l (Err x) l
fetches_refused p m l {x} stop = record {
  refused = λ y q. let e : Err x ≡ Err y = cc in (e, refl);
  fetched = λ q. absurd (not_both q stop);
  listed = λ q. absurd (not_both q stop);
  number = ap check_number (sym stop);
}

pub fetches_fetched : (p : Plan) (m l : List ℕ) {l' : List ℕ} {z : ℕ} → fetch_check p m l ≡ Ok tt →
    FetchBits (layout_of p) (erasures (layout_of p) m) (length m) l' z → Fetches p m l (Ok z) l'
fetches_fetched p m l {z} pass f = record {
  refused = λ x q. absurd (not_both pass q);
  fetched = λ _. (z, refl);
  listed = λ _. f;
  number = ap check_number (sym pass);
}
