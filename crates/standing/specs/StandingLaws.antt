-- The tests of a lent state, and what a state that passes has.
-- Main results: block_off, marks_off, line_last; held_none, held_stops, held_passes; state_passed, state_passes, pass_kept, kept_pass.
use Rattle.std.specs.Prelude.{is_some, ◌≡◌, Bool, true, false, cond, not, ◌&&◌, List, ℕ, ◌+◌, ◌*◌, ◌/◌, length, take, refl, Ok, Err, None, Some}
use Rattle.std.proofs.Common.{sym, ◌∙◌, true≢false, arith}
use Rattle.std.proofs.Math.Dec.{eqb}
use borrow.Author.Tests.{eq-eqb, ne_eqb, eqb-true, not-true, not-false}
use Rattle.math.specs.Tests.{and_left, and_right}
use Rattle.math.specs.MembersLaws.{by_test}
use Rattle.refusals.specs.Refusals.{unless, Check}
use Rattle.refusals.proofs.RefusalLaws.{unless_pass, then_pass}
use Rattle.refusals.specs.declared.Refusal.{Refusal}
use Rattle.refusals.specs.declared.Refusal.TheVariants.{Length, Spare}
use Rattle.plan.specs.declared.Plan.{Plan}
use Rattle.plan.specs.Layout.{layout}
use Rattle.plan.specs.Plans.{layout_of, plan_check}
use Rattle.code.specs.Marks.{mark_bytes, NoSpare}
use Rattle.code.proofs.Laws.MarksLaws.{mark_count_zero}
use Rattle.calls.specs.Calls.{none_from, spare_clear, lent_check, call_check}
use Rattle.calls.proofs.CallsLaws.{spare_none, lent_pass, call_stop, call_next, call_passes, call_passed}
use Rattle.stretches.specs.ByteLaws.{none_marked}
use Rattle.lines.specs.Lines.{line_length}
use Rattle.act.specs.Acts.{block_length, marks_length, Kept, Held, held_plan}
use Rattle.standing.specs.Standing.{buffers_fit, state_check, held_check}

-- ---- the lengths

module _ (v m l : List ℕ) where
  pub block_off : (length v ≡ block_length → ⊥) → false ≡ buffers_fit v m l
  unfolding buffers_fit
  block_off n = simp (ne_eqb (length v) block_length n)

  pub marks_off : length v ≡ block_length → (length m ≡ marks_length → ⊥) → false ≡ buffers_fit v m l
  unfolding buffers_fit
  marks_off e n = simp (eq-eqb (length v) block_length e, ne_eqb (length m) marks_length n)

  pub line_last : length v ≡ block_length → length m ≡ marks_length → eqb (length l) line_length ≡ buffers_fit v m l
  unfolding buffers_fit
  line_last e f = simp (eq-eqb (length v) block_length e, eq-eqb (length m) marks_length f)

  pub buffers_long : buffers_fit v m l ≡ true → (length v ≡ block_length) × (length m ≡ marks_length) × (length l ≡ line_length)
  unfolding buffers_fit
  buffers_long e =
      let a = and_left (eqb (length v) block_length && eqb (length m) marks_length) (eqb (length l) line_length) e in (
        eqb-true _ _ (and_left (eqb (length v) block_length) (eqb (length m) marks_length) a),
        eqb-true _ _ (and_right (eqb (length v) block_length) (eqb (length m) marks_length) a),
        eqb-true _ _ (and_right (eqb (length v) block_length && eqb (length m) marks_length) (eqb (length l) line_length) e),
      )

-- ---- which test gives which answer

-- by the plan that is held, or none
module _ (fits : Bool) (m : List ℕ) where
  pub held_none : {h : Held} {r : Check} → h ≡ None → r ≡ lent_check 0 fits m → r ≡ state_check h fits m
  unfolding state_check
  held_none e f = f ∙ rw e refl

  pub held_stops : {h : Held} {p : Plan} {x : Refusal} → h ≡ Some p → plan_check p ≡ Err x → Err x ≡ state_check h fits m
  unfolding state_check
  held_stops {h} {p} e f = call_stop p fits m f ∙ rw e refl

  pub held_passes : {h : Held} {p : Plan} {r : Check} → h ≡ Some p → plan_check p ≡ Ok tt → r ≡ lent_check (p.n * p.t) fits m → r ≡ state_check h fits m
  unfolding state_check
  held_passes {h} {p} e f g = call_next p fits m f g ∙ rw e refl

-- ---- a state that passes

-- with a plan every test of a call passes, and with none the lengths
held_passed : (p : Bool) (a b : Check) → cond p a b ≡ Ok tt → (p ≡ true → a ≡ Ok tt) × (p ≡ false → b ≡ Ok tt)
held_passed true a b e = (λ _. e, λ q. absurd (true≢false q))
held_passed false a b e = (λ q. absurd (true≢false (sym q)), λ _. e)

lent_fits : (places : ℕ) (fits : Bool) (m : List ℕ) → lent_check places fits m ≡ Ok tt → fits ≡ true
unfolding lent_check
lent_fits places fits m e = unless_pass fits Length (then_pass (unless fits Length) (unless (spare_clear places m) Spare) e).0

-- a state that passes: the buffers fit, and where a plan is held it is good and its marks have no spare bit
module _ (h : Held) (fits : Bool) (m : List ℕ) where
  pub state_passed : state_check h fits m ≡ Ok tt →
      (fits ≡ true) × (is_some h ≡ true → plan_check (held_plan h) ≡ Ok tt) × (is_some h ≡ true → NoSpare (layout_of (held_plan h)) (take (mark_bytes (layout_of (held_plan h))) m))
  unfolding state_check NoSpare mark_bytes layout_of layout spare_clear
  state_passed e =
      let r = held_passed (is_some h) (call_check (held_plan h) fits m) (lent_check 0 fits m) e in (
        by_test (is_some h) (λ p. (call_passed (held_plan h) fits m (r.0 p)).1) (λ p. lent_fits 0 fits m (r.1 p)),
        λ p. (call_passed (held_plan h) fits m (r.0 p)).0,
        λ p. none_marked (take (((held_plan h).n * (held_plan h).t + 7) / 8) m) ((held_plan h).n * (held_plan h).t) (call_passed (held_plan h) fits m (r.0 p)).2,
      )

  -- and the other way
  pub state_passes : {v : List ℕ} → Kept h v m → fits ≡ true → state_check h fits m ≡ Ok tt
  unfolding state_check NoSpare mark_bytes layout_of layout spare_clear none_from
  state_passes k e =
      by_test (is_some h)
      (λ p. rw p (call_passes (held_plan h) fits m (k.good p) e
      (eq-eqb _ 0 (mark_count_zero (take (((held_plan h).n * (held_plan h).t + 7) / 8) m) ((held_plan h).n * (held_plan h).t) _ (λ c g less. k.spare p c g (omega arith))))))
      (λ p. rw p (sym (lent_pass 0 m fits e (sym (spare_none m)))))

module _ (h : Held) (v m l : List ℕ) where
  pub pass_kept : held_check h v m l ≡ Ok tt → Kept h v m × (length l ≡ line_length)
  unfolding held_check
  pass_kept e =
      let s = state_passed h (buffers_fit v m l) m e in
      let b = buffers_long v m l s.0 in
      (record { good = s.1; spare = s.2; block_long = b.0; marks_long = b.1 }, b.2)

  -- and the other way: a kept state with its line buffer passes
  pub kept_pass : Kept h v m → length l ≡ line_length → held_check h v m l ≡ Ok tt
  unfolding held_check
  kept_pass k e = state_passes h (buffers_fit v m l) m k (sym (line_last v m l k.block_long k.marks_long) ∙ eq-eqb (length l) line_length e)
