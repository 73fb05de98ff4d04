-- How each command keeps its meaning: what its function did to the buffers, said of the state.
-- Main results: blank_makes, straight_makes, powers_makes, ruler_makes, makes_by, made_acts, shifted, symbol_set, one_marked, run_marked, shown.
use Rattle.refusals.specs.declared.Refusal.{Refusal}
use Rattle.plan.specs.declared.Plan.{Plan}
use Rattle.std.specs.Prelude.{is_some, ◌≡◌, refl, true, List, [], ◌∷◌, ℕ, ◌+◌, ◌*◌, ◌/◌, ◌≤◌, ◌<◌, get_or, drop, Ok, Some, Result}
use Rattle.std.proofs.Common.{sym, ◌∙◌, subst, get_or-take}
use Rattle.std.proofs.Math.Path.{ap}
use native.Mathlib.Omega.{arith}
use Rattle.std.proofs.Math.ListN.{length, set, take, length-set}
use Rattle.std.proofs.Math.Seq.{take-set-lt, drop-set-lt}
use Rattle.plan.specs.Layout.{layout}
use Rattle.plan.specs.Plans.{with_shift, plan_in, blank_of, layout_of, plan_check, straight_of, powers_of, ruler_of}
use Rattle.plan.proofs.PlanLaws.{shift_good, blank_good, straight_good, powers_good, ruler_good}
use Rattle.code.specs.Marks.{mark_bytes, NoSpare}
use Rattle.lines.specs.Lines.{line, symbol_word}
use Rattle.commands.specs.declared.Command.{Command}
use Rattle.commands.specs.declared.Command.TheVariants.{NewPlan, SetShift, SetSymbol, MarkOne, MarkRun, Show, Straight, Powers, Ruler}
use Rattle.state.specs.State.{fresh, with_plan, with_block}
use Rattle.bits.specs.Bits.{Marked}
use Rattle.state.specs.Refusing.{refusal_of}
use Rattle.bits.specs.MarkedLaws.{Bytes, marked_no_spare}
use Rattle.act.specs.Meaning.{Means, Marking}
use Rattle.act.specs.Acts.{state_of, Kept, Rest, Makes, Acts, block_length, Held, held_plan}
use Rattle.act.proofs.StateLaws.{marked_take, marked_rest}

-- ---- new plans

pub blank_makes : (n t : ℕ) → Makes (NewPlan n t) (blank_of n t)
unfolding Means refusal_of
blank_makes n t = record { refusal = λ s. refl; means = λ s s' e. (e, refl); good = λ p. blank_good n t }

pub straight_makes : (n t : ℕ) → Makes (Straight n t) (straight_of n t)
unfolding Means refusal_of
straight_makes n t = record { refusal = λ s. refl; means = λ s s' e. (e, refl); good = λ p. straight_good n t }

pub powers_makes : (n t q : ℕ) → Makes (Powers n t q) (powers_of n t q)
unfolding Means refusal_of
powers_makes n t q = record { refusal = λ s. refl; means = λ s s' e. (e, refl); good = λ p. powers_good n t q }

pub ruler_makes : (n : ℕ) → Makes (Ruler n) (ruler_of n)
unfolding Means refusal_of
ruler_makes n = record { refusal = λ s. refl; means = λ s s' e. (e, refl); good = λ p. ruler_good n }

-- the same of the command and the answer at hand
pub makes_by : {c k : Command} {a x : Result Plan Refusal} → c ≡ k → a ≡ x → Makes k x → Makes c a
makes_by {c} {k} {a} {x} e f m = subst (λ (y : Command). Makes y a) (sym e) (subst (Makes k) (sym f) m)

-- the plan begun
pub made_acts : {c : Command} {x : Result Plan Refusal} → Makes c x → (h : Held) {v m v' m' : List ℕ} {r : Held} →
    (state_of r v' m' ≡ fresh (plan_in x)) × Kept r v' m' × Rest r v m v' m' → Acts c h v m [] r v' m'
made_acts k h b = record { means = k.means _ _ b.0; kept = b.1; rest = b.2 }

-- ---- shifts

pub shifted : (h : Held) (j p : ℕ) → is_some h ≡ true → p < (held_plan h).t → plan_check (held_plan h) ≡ Ok tt → (v m : List ℕ) → Kept h v m →
    Acts (SetShift j p) h v m [] (Some (with_shift (held_plan h) j p)) v m
unfolding Means state_of with_plan with_shift mark_bytes layout_of layout NoSpare
shifted h j p planned b g v m k =
    record {
      means = (refl, refl);
      kept = record {
        good = λ _. shift_good (held_plan h) j p g b;
        spare = λ _. k.spare planned;
        block_long = k.block_long;
        marks_long = k.marks_long;
      };
      rest = record { block = refl; marks = refl };
    }

-- ---- symbols and marks

module _ {h : Held} {v m : List ℕ} (k : Kept h v m) (planned : is_some h ≡ true) (bytes : Bytes m) where
  marking : {m' : List ℕ} {c n b : ℕ} (v' : List ℕ) → length v' ≡ block_length → Marked m c n b m' → c + n ≤ (held_plan h).n * (held_plan h).t →
      Marking (state_of h v m) (state_of h v' m') (take ((held_plan h).n * (held_plan h).t) v') c n b × Kept h v' m'
      × (drop (mark_bytes (layout_of (held_plan h))) m' ≡ drop (mark_bytes (layout_of (held_plan h))) m)
  unfolding state_of with_block mark_bytes layout_of layout
  marking {m'} {c} {n} {b} v' e d less =
      let bits : c + n ≤ 8 * (((held_plan h).n * (held_plan h).t + 7) / 8) = omega arith in
      let part = marked_take (((held_plan h).n * (held_plan h).t + 7) / 8) d bits in (
        record { marks = take (mark_bytes (layout_of (held_plan h))) m'; marked = part; state = rw planned },
        record {
          good = k.good;
          spare = λ _. marked_no_spare (layout_of (held_plan h)) (k.spare planned) part less;
          block_long = e;
          marks_long = d.long ∙ k.marks_long;
        },
        marked_rest (((held_plan h).n * (held_plan h).t + 7) / 8) bytes d bits,
      )

  pub symbol_set : (c x : ℕ) → c < (held_plan h).n * (held_plan h).t → {v' m' : List ℕ} → v' ≡ set v c x → Marked m c 1 0 m' → Acts (SetSymbol c x) h v m [] h v' m'
  unfolding Means state_of
  symbol_set c x less {v'} {m'} e d =
      let r = marking v' (ap length e ∙ length-set v c x ∙ k.block_long) d (omega arith) in
      let f : take ((held_plan h).n * (held_plan h).t) v' ≡ set (take ((held_plan h).n * (held_plan h).t) v) c x =
      ap (take ((held_plan h).n * (held_plan h).t)) e ∙ take-set-lt ((held_plan h).n * (held_plan h).t) v c x less in
      record {
        means = (subst (λ l. Marking (state_of h v m) (state_of h v' m') l c 1 0) f r.0, refl);
        kept = r.1;
        rest = record { block = ap (drop ((held_plan h).n * (held_plan h).t)) e ∙ drop-set-lt ((held_plan h).n * (held_plan h).t) v c x less; marks = r.2 };
      }

  pub one_marked : (c : ℕ) → c < (held_plan h).n * (held_plan h).t → {m' : List ℕ} → Marked m c 1 1 m' → Acts (MarkOne c) h v m [] h v m'
  unfolding Means state_of
  one_marked c less d =
      let r = marking v k.block_long d (omega arith) in
      record { means = (r.0, refl); kept = r.1; rest = record { block = refl; marks = r.2 } }

  pub run_marked : (c n : ℕ) → c + n ≤ (held_plan h).n * (held_plan h).t → {m' : List ℕ} → Marked m c n 1 m' → Acts (MarkRun c n) h v m [] h v m'
  unfolding Means state_of
  run_marked c n less d =
      let r = marking v k.block_long d less in
      record { means = (r.0, refl); kept = r.1; rest = record { block = refl; marks = r.2 } }

pub shown : {h : Held} {v m : List ℕ} → Kept h v m → (c : ℕ) → c < (held_plan h).n * (held_plan h).t → {text : List ℕ} → text ≡ line symbol_word (c ∷ get_or v c 0 ∷ []) →
    Acts (Show c) h v m text h v m
unfolding Means state_of
shown {h} {v} {m} k c less e =
    record {
      means = (refl, e ∙ ap (λ x. line symbol_word (c ∷ x ∷ [])) (sym (get_or-take ((held_plan h).n * (held_plan h).t) v c 0 less)));
      kept = k;
      rest = record { block = refl; marks = refl };
    }
