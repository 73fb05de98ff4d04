-- Which test gives which answer of check_of, and what a call that passes says of its plan and buffers.
-- Main results: call_stop, call_next, passes; pass_good, pass_lengths, pass_spare; few_marks, few_none; call_ranked; also_length, also_pass, as_marks; counted_pass, counted_stop.
use Rattle.std.specs.Prelude.{◌≡◌, ◌⊎◌, Bool, true, false, ◌&&◌, List, [], ℕ, ◌+◌, ◌*◌, ◌/◌, ◌≤◌, ◌<◌, eqb, length, get_or, Ok, Err, Option, Some}
use Rattle.std.proofs.Math.Path.{refl, sym, ap}
use Rattle.std.proofs.Common.{◌∙◌, inl, inr, ⊎_elim, true≢false, arith, eqb-true}
use Rattle.std.proofs.Math.Seq.{take_all}
use Rattle.math.specs.Tests.{and_left, and_right}
use Rattle.bounds.specs.Bounds.{max_places}
use Rattle.refusals.specs.Refusals.{number_of, unless, ◌then◌, rank_of, earlier, Check}
use Rattle.refusals.proofs.RefusalLaws.{pass_not_stop, stop_same, stop_or_pass, unless_pass, then_pass, earlier_pass, then_earlier}
use Rattle.refusals.specs.declared.Refusal.{Refusal}
use Rattle.refusals.specs.declared.Refusal.TheVariants.{Length, Spare}
use Rattle.plan.specs.Layout.{message_count, layout}
use Rattle.plan.specs.Plans.{layout_of, plan_check, count_of}
use Rattle.plan.proofs.PlanLaws.{plan_refusals, good_bounds}
use Rattle.plan.specs.declared.Plan.{Plan}
use Rattle.code.specs.Marks.{mark_bytes, NoSpare}
use Rattle.code.proofs.Laws.MarksLaws.{erasure_total}
use Rattle.stretches.specs.Stretches.{ones_of}
use Rattle.stretches.specs.ByteLaws.{none_marked, none_past}
use Rattle.calls.specs.Calls.{part_fits, lengths_fit, spare_clear, lent_check, call_check, check_of, also_lent, count_lent, counted_of}
use Rattle.calls.specs.declared.Lent.{Lent}

-- ---- the lengths

pub part_of : (x : Option ℕ) (j k : ℕ) → x ≡ Some j → eqb j k ≡ part_fits x k
part_of x j k e = ap (λ (y : Option ℕ). part_fits y k) (sym e)

pub part_same : (x : Option ℕ) {j k : ℕ} → j ≡ k → part_fits x j ≡ part_fits x k
part_same x e = ap (part_fits x) e

-- which test decides
module _ (n t count : ℕ) (lent : Lent) where
  pub block_off : part_fits lent.block (n * t) ≡ false → false ≡ lengths_fit n t count lent
  unfolding lengths_fit
  block_off a = simp a

  pub marks_off : part_fits lent.block (n * t) ≡ true → part_fits lent.marks ((n * t + 7) / 8) ≡ false → false ≡ lengths_fit n t count lent
  unfolding lengths_fit
  marks_off a b = simp (a, b)

  pub witness_off : part_fits lent.block (n * t) ≡ true → part_fits lent.marks ((n * t + 7) / 8) ≡ true →
      part_fits lent.witness (2 * t) ≡ false → false ≡ lengths_fit n t count lent
  unfolding lengths_fit
  witness_off a b c = simp (a, b, c)

  pub message_last : part_fits lent.block (n * t) ≡ true → part_fits lent.marks ((n * t + 7) / 8) ≡ true →
      part_fits lent.witness (2 * t) ≡ true → part_fits lent.message count ≡ lengths_fit n t count lent
  unfolding lengths_fit
  message_last a b c = simp (a, b, c)

-- only what is asked of the message counts
same_lengths : (n t j k : ℕ) (lent : Lent) → part_fits lent.message j ≡ part_fits lent.message k → lengths_fit n t j lent ≡ lengths_fit n t k lent
unfolding lengths_fit
same_lengths n t j k lent e = rw e

-- ---- the spare bits

-- marks that are too short to have any have no spare bit
pub spare_past : (a : ℕ) (m : List ℕ) → length m < (a + 7) / 8 → true ≡ spare_clear a m
unfolding spare_clear
spare_past a m h = let e = take_all ((a + 7) / 8) m (omega arith) in rw e (sym (none_past m a (omega arith)))

pub spare_empty : (a : ℕ) → true ≡ spare_clear a []
unfolding spare_clear
spare_empty a = let e = take_all {A = ℕ} ((a + 7) / 8) [] (omega arith) in rw e (sym (none_past [] a (omega arith)))

-- no places, no spare bits
pub spare_none : (m : List ℕ) → true ≡ spare_clear 0 m
unfolding spare_clear
spare_none m = sym (none_past [] 0 (omega arith))

-- ---- the answer that each test gives

module _ (places : ℕ) (m : List ℕ) where
  pub lent_length : (fits : Bool) → fits ≡ false → Err Length ≡ lent_check places fits m
  unfolding lent_check
  lent_length fits e = rw e

  pub lent_spare : (fits : Bool) → fits ≡ true → spare_clear places m ≡ false → Err Spare ≡ lent_check places fits m
  unfolding lent_check
  lent_spare fits e f = rw (e, f)

  pub lent_pass : (fits : Bool) → fits ≡ true → spare_clear places m ≡ true → (Ok tt) ≡ lent_check places fits m
  unfolding lent_check
  lent_pass fits e f = rw (e, f)

module _ (p : Plan) (fits : Bool) (m : List ℕ) where
  pub call_stop : {x : Refusal} → plan_check p ≡ Err x → Err x ≡ call_check p fits m
  unfolding call_check
  call_stop e = rw e

  pub call_next : {c : Check} → plan_check p ≡ Ok tt → c ≡ lent_check (p.n * p.t) fits m → c ≡ call_check p fits m
  unfolding call_check
  call_next e f = f ∙ rw e

  -- a call that passes, and back
  pub call_passes : plan_check p ≡ Ok tt → fits ≡ true → spare_clear (p.n * p.t) m ≡ true → call_check p fits m ≡ Ok tt
  unfolding call_check lent_check
  call_passes e f g = rw (e, f, g)

  pub call_passed : call_check p fits m ≡ Ok tt → (plan_check p ≡ Ok tt) × (fits ≡ true) × (spare_clear (p.n * p.t) m ≡ true)
  unfolding call_check lent_check
  call_passed e =
      let a = then_pass (plan_check p) _ e in
      let b = then_pass (unless fits Length) (unless (spare_clear (p.n * p.t) m) Spare) a.1 in
      (a.0, unless_pass fits Length b.0, unless_pass (spare_clear (p.n * p.t) m) Spare b.1)

module _ (p : Plan) (lent : Lent) (m : List ℕ) where
  pub passes : plan_check p ≡ Ok tt → lengths_fit p.n p.t (message_count (layout_of p)) lent ≡ true → spare_clear (p.n * p.t) m ≡ true → (Ok tt) ≡ check_of p lent m
  unfolding check_of
  passes e f g = sym (call_passes p (lengths_fit p.n p.t (message_count (layout_of p)) lent) m e f g)

  -- the count of message places is worked out by whoever knows it best
  pub call_lent : {fits : Bool} {c : Check} (count : ℕ) → plan_check p ≡ Ok tt → c ≡ lent_check (p.n * p.t) fits m → fits ≡ lengths_fit p.n p.t count lent →
      part_fits lent.message count ≡ part_fits lent.message (message_count (layout_of p)) → c ≡ check_of p lent m
  unfolding check_of
  call_lent count e f g h =
      call_next p _ m e (f ∙ ap (λ b. lent_check (p.n * p.t) b m) (g ∙ same_lengths p.n p.t count (message_count (layout_of p)) lent h))

-- the lengths that a call which passes is lent
pub record Lengths (n t count : ℕ) (lent : Lent) : Type 0 where
  pub block : (k : ℕ) → lent.block ≡ Some k → k ≡ n * t
  pub marks : (k : ℕ) → lent.marks ≡ Some k → k ≡ (n * t + 7) / 8
  pub witness : (k : ℕ) → lent.witness ≡ Some k → k ≡ 2 * t
  pub message : (k : ℕ) → lent.message ≡ Some k → k ≡ count

part_is : (x : Option ℕ) (k : ℕ) → part_fits x k ≡ true → (j : ℕ) → x ≡ Some j → j ≡ k
part_is x k f j e = eqb-true j k (ap (λ (y : Option ℕ). part_fits y k) (sym e) ∙ f)

lengths_of : (n t count : ℕ) (lent : Lent) → lengths_fit n t count lent ≡ true → Lengths n t count lent
unfolding lengths_fit
lengths_of n t count lent e =
    let a = part_fits lent.block (n * t) in
    let b = part_fits lent.marks ((n * t + 7) / 8) in
    let c = part_fits lent.witness (2 * t) in
    let d = part_fits lent.message count in
    let e₃ = and_left (a && b && c) d e in
    let e₂ = and_left (a && b) c e₃ in
    record {
      block = part_is lent.block (n * t) (and_left a b e₂);
      marks = part_is lent.marks ((n * t + 7) / 8) (and_right a b e₂);
      witness = part_is lent.witness (2 * t) (and_right (a && b) c e₃);
      message = part_is lent.message count (and_right (a && b && c) d e);
    }

module _ (p : Plan) (lent : Lent) (m : List ℕ) (e : check_of p lent m ≡ Ok tt) where
  all_of : (plan_check p ≡ Ok tt) × (lengths_fit p.n p.t (message_count (layout_of p)) lent ≡ true) × (spare_clear (p.n * p.t) m ≡ true)
  unfolding check_of
  all_of = call_passed p (lengths_fit p.n p.t (message_count (layout_of p)) lent) m e

  pub pass_good : plan_check p ≡ Ok tt
  pass_good = all_of.0

  pub pass_lengths : Lengths p.n p.t (message_count (layout_of p)) lent
  pass_lengths = lengths_of p.n p.t (message_count (layout_of p)) lent all_of.1

  pub pass_spare : length m ≡ (p.n * p.t + 7) / 8 → NoSpare (layout_of p) m
  unfolding NoSpare spare_clear layout_of layout
  pass_spare l = let whole = take_all ((p.n * p.t + 7) / 8) m (omega (arith, l)) in none_marked m (p.n * p.t) (rw whole at all_of.2)

-- ---- which refusals a call can give: 1 to 4, and 4 only by the marks

then_stop : (a b : Check) {x : Refusal} → (a then b) ≡ Err x → (a ≡ Err x) ⊎ (b ≡ Err x)
then_stop (Ok tt) b e = inr e
then_stop (Err y) b e = inl e

unless_stop : (b : Bool) (y : Refusal) {x : Refusal} → unless b y ≡ Err x → (x ≡ y) × (b ≡ false)
unless_stop true y e = absurd (pass_not_stop _ e)
unless_stop false y e = (stop_same (sym e), refl)

call_few : (p : Plan) (fits : Bool) (m : List ℕ) {x : Refusal} → call_check p fits m ≡ Err x → (number_of x < 4) ⊎ ((x ≡ Spare) × (spare_clear (p.n * p.t) m ≡ false))
unfolding call_check lent_check
call_few p fits m e =
    let clear = spare_clear (p.n * p.t) m in
    ⊎_elim
    (λ a. inl (⊎_elim (λ s. rw s.0 (omega arith)) (λ s. rw s.0 (omega arith)) (plan_refusals p a)))
    (λ a. ⊎_elim (λ s. let q = unless_stop fits Length s in inl (rw q.0 (omega arith))) (λ s. inr (unless_stop clear Spare s))
    (then_stop (unless fits Length) (unless clear Spare) a))
    (then_stop (plan_check p) (lent_check (p.n * p.t) fits m) e)

call_most : (p : Plan) (fits : Bool) (m : List ℕ) {x : Refusal} → call_check p fits m ≡ Err x → number_of x < 5
call_most p fits m e = ⊎_elim (λ h. omega (arith, h)) (λ h. rw h.0 (omega arith)) (call_few p fits m e)

pub few_marks : (p : Plan) (lent : Lent) (m : List ℕ) {x : Refusal} → check_of p lent m ≡ Err x → number_of x < 5
unfolding check_of
few_marks p lent m e = call_most p _ m e

-- where no marks are lent no spare bit is 1
pub few_none : (p : Plan) (lent : Lent) {x : Refusal} → check_of p lent [] ≡ Err x → number_of x < 4
unfolding check_of
few_none p lent e = ⊎_elim (λ h. h) (λ h. absurd (true≢false (spare_empty (p.n * p.t) ∙ h.1))) (call_few p _ [] e)

-- ---- the order of the table

plan_rank : (p : Plan) {x : Refusal} → plan_check p ≡ Err x → rank_of x < rank_of Length
plan_rank p e = ⊎_elim (λ s. rw s.0 (omega arith)) (λ s. rw s.0 (omega arith)) (plan_refusals p e)

lent_rank : (fits clear : Bool) {x : Refusal} → (unless fits Length then unless clear Spare) ≡ Err x → rank_of Length ≤ rank_of x
lent_rank fits clear {x} e =
    ⊎_elim
    (λ s. let q : x ≡ Length = (unless_stop fits Length s).0 in rw q (omega arith))
    (λ s. let q : x ≡ Spare = (unless_stop clear Spare s).0 in rw q (omega arith))
    (then_stop (unless fits Length) (unless clear Spare) e)

-- the tests of a call stand in the order of the ranks
pub call_ranked : (p : Plan) (fits : Bool) (m : List ℕ) → call_check p fits m ≡ earlier (plan_check p) (earlier (unless fits Length) (unless (spare_clear (p.n * p.t) m) Spare))
unfolding call_check lent_check
call_ranked p fits m =
    let clear = spare_clear (p.n * p.t) m in
    then_earlier (plan_check p) (unless fits Length then unless clear Spare) (λ x y e f. omega (arith, plan_rank p e, lent_rank fits clear f))
    ∙ ap (earlier (plan_check p))
    (then_earlier (unless fits Length) (unless clear Spare)
    (λ x y e f.
    let q : x ≡ Length = (unless_stop fits Length e).0 in
    let r : y ≡ Spare = (unless_stop clear Spare f).0 in
    rw (q, r) (omega arith)))

-- ---- a further buffer

-- where the plan is good, and where it is not
lent_also : (fits clear also : Bool) → also_lent (unless fits Length then unless clear Spare) also ≡ (unless (fits && also) Length then unless clear Spare)
unfolding also_lent
lent_also true true true = refl
lent_also true true false = refl
lent_also true false true = refl
lent_also true false false = refl
lent_also false clear true = refl
lent_also false clear false = refl

stop_also : (p : Plan) (also : Bool) {x : Refusal} → plan_check p ≡ Err x → also_lent (Err x) also ≡ Err x
unfolding also_lent
stop_also p true e = refl
stop_also p false e = ⊎_elim (λ s. rw s.0 refl) (λ s. rw s.0 refl) (plan_refusals p e)

-- what it comes to
module _ (c : Check) {fits : Bool} where
  pub also_fits : fits ≡ true → earlier c (Ok tt) ≡ also_lent c fits
  unfolding also_lent
  also_fits e = rw e

  pub also_not : fits ≡ false → earlier c (Err Length) ≡ also_lent c fits
  unfolding also_lent
  also_not e = rw e

-- it is as if it were one of the others
pub also_length : (p : Plan) (fits also : Bool) (m : List ℕ) → also_lent (call_check p fits m) also ≡ call_check p (fits && also) m
unfolding call_check lent_check
also_length p fits also m =
    ⊎_elim
    (λ e. rw e (lent_also fits (spare_clear (p.n * p.t) m) also))
    (λ s. rw s.1 (stop_also p also s.1))
    (stop_or_pass (plan_check p))

pub also_pass : (c : Check) (fits : Bool) → also_lent c fits ≡ Ok tt → (c ≡ Ok tt) × (fits ≡ true)
unfolding also_lent
also_pass c fits e = let p = earlier_pass c (unless fits Length) e in (p.0, unless_pass fits Length p.1)

pub also_passes : {c : Check} {fits : Bool} → c ≡ Ok tt → fits ≡ true → also_lent c fits ≡ Ok tt
unfolding also_lent
also_passes e f = rw (e, f)

pub also_few : (p : Plan) (lent : Lent) (m : List ℕ) (fits : Bool) {x : Refusal} → also_lent (check_of p lent m) fits ≡ Err x → number_of x < 5
unfolding check_of
also_few p lent m fits e = call_most p _ m (sym (also_length p _ fits m) ∙ e)

-- ---- the count of marks

marks_lent : (m : List ℕ) → (count_lent m).marks ≡ Some (length m)
unfolding count_lent
marks_lent m = refl

fits_as : (k a b : ℕ) {fits : Bool} → (fits ≡ true → a ≡ b) → fits && eqb k a ≡ fits && eqb k b
fits_as k a b {fits = true} h = ap (eqb k) (h refl)
fits_as k a b {fits = false} h = refl

module _ (p : Plan) (m : List ℕ) where
  -- the marks have the plan's length where the call passes
  pub count_length : check_of p (count_lent m) m ≡ Ok tt → length m ≡ (p.n * p.t + 7) / 8
  unfolding count_lent
  count_length e = (pass_lengths p (count_lent m) m e).marks (length m) refl

  -- so a further buffer of the plan's mark bytes is one as long as the marks
  pub as_marks : (k : ℕ) → also_lent (check_of p (count_lent m) m) (eqb k (length m)) ≡ also_lent (check_of p (count_lent m) m) (eqb k ((p.n * p.t + 7) / 8))
  unfolding check_of
  as_marks k =
      also_length p _ (eqb k (length m)) m ∙ ap (λ b. call_check p b m) (fits_as k (length m) _ (λ h. (lengths_of p.n p.t (message_count (layout_of p)) (count_lent m) h).marks (length m) (marks_lent m)))
      ∙ sym (also_length p _ (eqb k ((p.n * p.t + 7) / 8)) m)

  pub count_most : check_of p (count_lent m) m ≡ Ok tt → 8 * length m ≤ max_places
  count_most e = omega (arith, (good_bounds p (pass_good p (count_lent m) m e)).places_max, count_length e)

  pub counted_pass : check_of p (count_lent m) m ≡ Ok tt → ((i : ℕ) → get_or m i 0 < 256) → Ok (ones_of m (length m)) ≡ counted_of p m
  unfolding counted_of count_of ones_of layout_of layout mark_bytes
  counted_pass e h =
      let g = good_bounds p (pass_good p (count_lent m) m e) in
      rw e (ap Ok (sym (erasure_total (layout_of p) refl g.t_min m (count_length e) (pass_spare p (count_lent m) m e (count_length e)) h)))

  pub counted_stop : (x : Refusal) → check_of p (count_lent m) m ≡ Err x → Err x ≡ counted_of p m
  unfolding counted_of count_of
  counted_stop x e = rw e
