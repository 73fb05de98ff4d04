-- What counting and recovering say on buffers of the plan's lengths: their calls pass.
-- Main results: zeros_long, marked_is; loose_within, crossed_within; loose_long, crossed_long; on_recovered, on_loose, on_crossed, on_loose_shown, on_crossed_shown; not_refused; by_success, by_loose, by_crossed.
use Rattle.std.specs.Prelude.{◌≡◌, List, [], ◌∷◌, ℕ, ◌-◌, ◌*◌, ◌≤◌, take, Ok}
use Rattle.std.proofs.Math.Path.{refl, ap}
use Rattle.std.proofs.Common.{sym, ◌∙◌, length-take-le}
use native.Mathlib.Omega.{arith}
use Rattle.std.proofs.Math.ListN.{length, replicate, length-append}
use Rattle.std.proofs.lemmas.List.{length-replicate}
use Rattle.math.specs.Padded.{padded}
use Rattle.plan.specs.Layout.{layout}
use Rattle.bounds.specs.Bounds.{max_t}
use Rattle.plan.specs.Plans.{layout_of, plan_check, count_of}
use Rattle.plan.proofs.PlanLaws.{good_bounds}
use Rattle.plan.specs.declared.Plan.{Plan}
use Rattle.code.specs.Marks.{mark_bytes, NoSpare, erasures}
use Rattle.calls.specs.Calls.{counted_of}
use Rattle.refusals.specs.Refusals.{Check, count_value, number_of}
use Rattle.promises.specs.Promises.{Decides, Recovers}
use Rattle.promises.proofs.Building.{count_passes, recover_passes}
use Rattle.answers.specs.Answers.{recovery_number, recovery_count}
use Rattle.refusals.specs.declared.Refusal.{Refusal}
use Rattle.refusals.specs.declared.Refusal.TheVariants as refusal
use Rattle.answers.specs.declared.Recovery.{Recovery}
use Rattle.answers.specs.declared.Recovery.TheVariants as recovery
use Rattle.lines.specs.Lines.{line, recovered_word, loose_word, crossed_word}
use Rattle.state.specs.State.{with_block}
use Rattle.bits.specs.MarkedLaws.{no_marks_no_spare}
use Rattle.act.proofs.RecoveringLaws.{recovering_by}
use Rattle.blocks.specs.Wholes.{Whole, Recovered, whole}

-- the front part of an array of zeros, lent as the witness
pub zeros_long : (m k : ℕ) → m ≤ k → m ≡ length (take m (replicate {A = ℕ} k 0))
zeros_long m k h = sym (length-take-le m (replicate k 0) (omega (arith, length-replicate {A = ℕ} k 0)))

-- ---- the number of marks

pub marked_is : (p : Plan) (m : List ℕ) → plan_check p ≡ Ok tt → length m ≡ mark_bytes (layout_of p) → NoSpare (layout_of p) m →
    count_value (counted_of p m) ≡ length (erasures (layout_of p) m)
unfolding counted_of
marked_is p m good long spare =
    ap (λ (k : Check). count_value (count_of k (length (erasures (layout_of p) m)))) (count_passes p m good long spare) ∙ first
  where
    first : count_value (count_of (Ok tt) (length (erasures (layout_of p) m))) ≡ length (erasures (layout_of p) m)
    first = unfold count_of in refl

-- ---- recovering

module _ (p : Plan) (v m w : List ℕ) (a : Whole p v m) (w-long : length w ≡ 2 * p.t) {r : Recovery} {v' w' : List ℕ} (rec : Recovers p v m w r v' w') where
  decided : Decides (layout_of p) (erasures (layout_of p) m) v r v' w'
  decided = rec.passed (recover_passes p v m w a.good block a.marks_long witness a.spare)
    where
      block : length v ≡ (layout_of p).n * (layout_of p).t
      block = unfold layout_of layout in a.block_long

      witness : length w ≡ 2 * (layout_of p).t
      witness = unfold layout_of layout in w-long

  within : (z k : ℕ) (l : List ℕ) → z ≡ length l → w' ≡ padded k l → length w' ≡ length w → (z ≤ length w') × (z ≤ 2 * max_t)
  unfolding padded
  within z k l e f long =
      let g = ap length f ∙ length-append l (replicate (k - length l) 0) in
      (omega arith, omega (arith, good_bounds p a.good))

  pub loose_within : (z : ℕ) → r ≡ recovery.Loose z → length w' ≡ length w → (z ≤ length w') × (z ≤ 2 * max_t)
  loose_within z e long = let s = decided.loose_shows z e in within z _ s.0 (sym (ap recovery_count e) ∙ s.2) s.3 long

  pub crossed_within : (z : ℕ) → r ≡ recovery.Crossed z → length w' ≡ length w → (z ≤ length w') × (z ≤ 2 * max_t)
  crossed_within z e long = let s = decided.crossed_shows z e in within z _ s.0 (sym (ap recovery_count e) ∙ s.2) s.3 long

  -- each answer with what it has written and left
  pub on_recovered : {text m' : List ℕ} {count : ℕ} → r ≡ recovery.Recovered → count ≡ length (erasures (layout_of p) m) → m' ≡ replicate (length m) 0 →
      text ≡ line recovered_word (count ∷ []) → Recovered p v m text v' m'
  on_recovered e c f t =
      record {
        means = recovering_by decided (rw e (t ∙ ap (λ x. line recovered_word (x ∷ [])) c))
            (rw e (unfold with_block in ap (whole p v') (f ∙ ap (λ x. replicate x 0) a.marks_long)));
        spare = rw f (no_marks_no_spare (layout_of p) (length m));
      }

  pub on_loose : {text : List ℕ} (z : ℕ) → r ≡ recovery.Loose z → text ≡ line loose_word (z ∷ take z w') → Recovered p v m text v' m
  on_loose z e t = record { means = recovering_by decided (rw e t) (rw e (ap (λ x. whole p x m) (decided.loose_keeps z e))); spare = a.spare }

  pub on_crossed : {text : List ℕ} (z : ℕ) → r ≡ recovery.Crossed z → text ≡ line crossed_word (z ∷ take z w') → Recovered p v m text v' m
  on_crossed z e t = record { means = recovering_by decided (rw e t) (rw e (ap (λ x. whole p x m) (decided.crossed_keeps z e))); spare = a.spare }

  -- so many entries of the list are shown
  pub loose_long : (z : ℕ) → r ≡ recovery.Loose z → length w' ≡ length w → length (take z w') ≡ z
  loose_long z e long = length-take-le z w' (loose_within z e long).0

  pub crossed_long : (z : ℕ) → r ≡ recovery.Crossed z → length w' ≡ length w → length (take z w') ≡ z
  crossed_long z e long = length-take-le z w' (crossed_within z e long).0

  -- the same where the line counts what is shown
  pub on_loose_shown : {text : List ℕ} (z : ℕ) → r ≡ recovery.Loose z → length w' ≡ length w → text ≡ line loose_word (length (take z w') ∷ take z w') → Recovered p v m text v' m
  on_loose_shown z e long t = on_loose z e (t ∙ ap (λ k. line loose_word (k ∷ take z w')) (loose_long z e long))

  pub on_crossed_shown : {text : List ℕ} (z : ℕ) → r ≡ recovery.Crossed z → length w' ≡ length w → text ≡ line crossed_word (length (take z w') ∷ take z w') → Recovered p v m text v' m
  on_crossed_shown z e long t = on_crossed z e (t ∙ ap (λ k. line crossed_word (k ∷ take z w')) (crossed_long z e long))

  -- nothing refuses the call
  pub not_refused : (x : Refusal) → r ≡ recovery.Refused x → ⊥
  not_refused x e = decided.not_refused x e

  -- the answer by its number and count
  pub by_success : {k : ℕ} → k ≡ recovery_number r → k ≡ 0 → r ≡ recovery.Recovered
  by_success e z = decided.recovered_when.1 (decided.number.success_when.0 (sym e ∙ z))

  pub by_loose : {k j z : ℕ} → k ≡ recovery_number r → j ≡ number_of refusal.Loose → z ≡ recovery_count r → k ≡ j → r ≡ recovery.Loose z
  by_loose e f g h =
      let q = decided.loose_when.1 (decided.number.loose_when.0 (sym e ∙ h ∙ f)) in
      q.1 ∙ ap recovery.Loose (sym (g ∙ ap recovery_count q.1))

  pub by_crossed : {k j z : ℕ} → k ≡ recovery_number r → j ≡ number_of refusal.Loose → z ≡ recovery_count r → (k ≡ 0 → ⊥) → (k ≡ j → ⊥) → r ≡ recovery.Crossed z
  by_crossed {k} {j} {z} e f g a b = go r refl
    where
      go : (x : Recovery) → r ≡ x → r ≡ recovery.Crossed z
      go recovery.Recovered q = absurd (a (e ∙ ap recovery_number q))
      go (recovery.Loose y) q = absurd (b (e ∙ ap recovery_number q ∙ sym f))
      go (recovery.Crossed y) q = q ∙ ap recovery.Crossed (sym (g ∙ ap recovery_count q))
      go (recovery.Refused x) q = absurd (decided.not_refused x q)
