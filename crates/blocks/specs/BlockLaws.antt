-- How the commands on the whole block keep their meaning: what each did to the buffers, said of the state.
-- Main results: figured, lent_whole, recovered_acts, sealed_acts.
use Rattle.std.specs.Prelude.{is_some, ◌≡◌, true, List, [], ◌∷◌, ◌++◌, map, ℕ, ◌+◌, ◌-◌, ◌*◌, ◌/◌, length, take}
use Rattle.std.proofs.Math.Path.{refl, sym, ap, subst}
use Rattle.std.proofs.Common.{◌∙◌, arith, length-take-le}
use Rattle.std.proofs.Math.ListN.{drop, replicate}
use Rattle.std.proofs.Math.Seq.{length_front}
use Rattle.plan.specs.Layout.{layout, message_count}
use Rattle.plan.specs.Plans.{layout_of}
use Rattle.plan.proofs.PlanLaws.{good_valid}
use Rattle.code.specs.Codewords.{at}
use Rattle.code.specs.Marks.{mark_bytes, NoSpare}
use Rattle.code.specs.Messages.{Carries}
use Rattle.code.specs.Laws.ParityCount.{messages}
use Rattle.code.proofs.Laws.ParityCount.{message_lists}
use Rattle.code.specs.Figures as code
use Rattle.promises.proofs.Numbers.{message_count_is}
use Rattle.lines.specs.Lines.{line, figures_word, sealed_word}
use Rattle.commands.specs.declared.Command.TheVariants.{Recover, Seal, Figures}
use Rattle.state.specs.State.{with_block}
use Rattle.bits.specs.MarkedLaws.{no_marks_no_spare}
use Rattle.act.specs.Meaning.{Means, Recovering}
use Rattle.act.specs.Acts.{state_of, Kept, Rest, Acts, Held, held_plan}
use Rattle.blocks.specs.Wholes.{Whole, Recovered, whole}
use Rattle.act.proofs.StateLaws.{places_most, bytes_most, part_back, part_rest}

pub figured : {h : Held} {v m : List ℕ} → Kept h v m → (a b c d : ℕ) → code.Figures (layout_of (held_plan h)) a b c d →
    {text : List ℕ} → text ≡ line figures_word (a ∷ b ∷ c ∷ d ∷ []) → Acts Figures h v m text h v m
figured {h} {v} {m} k a b c d f e =
    record {
      means = unfold Means state_of in record { parity = a; pair = b; neighbour = c; distance = d; figures = f; state = refl; says = e };
      kept = k;
      rest = record { block = refl; marks = refl };
    }

-- ---- the whole block

-- the state's own parts, lent
pub lent_whole : {h : Held} {v m : List ℕ} → Kept h v m → is_some h ≡ true →
    Whole (held_plan h) (take ((held_plan h).n * (held_plan h).t) v) (take (((held_plan h).n * (held_plan h).t + 7) / 8) m)
unfolding mark_bytes layout_of layout NoSpare
lent_whole {h} {v} {m} k planned =
    let g = k.good planned in
    record {
      good = g;
      block_long = length-take-le _ v (omega (arith, places_most (held_plan h) g, k.block_long));
      marks_long = length-take-le _ m (omega (arith, bytes_most (held_plan h) g, k.marks_long));
      spare = k.spare planned;
    }

-- the state of parts that came back to the front of the buffers
module _ {h : Held} {v m : List ℕ} (k : Kept h v m) (planned : is_some h ≡ true) (a b : List ℕ)
    (a-long : length a ≡ length (take ((held_plan h).n * (held_plan h).t) v)) (b-long : length b ≡ length (take (((held_plan h).n * (held_plan h).t + 7) / 8) m)) where
  back_state : state_of h (a ++ drop ((held_plan h).n * (held_plan h).t) v) (b ++ drop (((held_plan h).n * (held_plan h).t + 7) / 8) m) ≡ whole (held_plan h) a b
  unfolding state_of mark_bytes layout_of layout
  back_state =
      let g = k.good planned in
      rw (planned, part_back ((held_plan h).n * (held_plan h).t) v a (omega (arith, places_most (held_plan h) g, k.block_long)) a-long, part_back (((held_plan h).n * (held_plan h).t + 7) / 8) m b (omega (arith, bytes_most (held_plan h) g, k.marks_long)) b-long)

  back_kept : NoSpare (layout_of (held_plan h)) b → Kept h (a ++ drop ((held_plan h).n * (held_plan h).t) v) (b ++ drop (((held_plan h).n * (held_plan h).t + 7) / 8) m)
  unfolding mark_bytes layout_of layout NoSpare
  back_kept spare =
      let g = k.good planned in
      record {
        good = k.good;
        spare = λ _. rw (part_back (((held_plan h).n * (held_plan h).t + 7) / 8) m b (omega (arith, bytes_most (held_plan h) g, k.marks_long)) b-long) spare;
        block_long = length_front v a ((held_plan h).n * (held_plan h).t) a-long ∙ k.block_long;
        marks_long = length_front m b (((held_plan h).n * (held_plan h).t + 7) / 8) b-long ∙ k.marks_long;
      }

  back_rest : Rest h v m (a ++ drop ((held_plan h).n * (held_plan h).t) v) (b ++ drop (((held_plan h).n * (held_plan h).t + 7) / 8) m)
  unfolding mark_bytes layout_of layout
  back_rest =
      let g = k.good planned in
      record {
        block = part_rest ((held_plan h).n * (held_plan h).t) v a (omega (arith, places_most (held_plan h) g, k.block_long)) a-long;
        marks = part_rest (((held_plan h).n * (held_plan h).t + 7) / 8) m b (omega (arith, bytes_most (held_plan h) g, k.marks_long)) b-long;
      }

  before_state : state_of h v m ≡ whole (held_plan h) (take ((held_plan h).n * (held_plan h).t) v) (take (((held_plan h).n * (held_plan h).t + 7) / 8) m)
  unfolding state_of mark_bytes layout_of layout
  before_state = rw planned

  pub recovered_acts : {text : List ℕ} → Recovered (held_plan h) (take ((held_plan h).n * (held_plan h).t) v) (take (((held_plan h).n * (held_plan h).t + 7) / 8) m) text a b →
      Acts Recover h v m text h (a ++ drop ((held_plan h).n * (held_plan h).t) v) (b ++ drop (((held_plan h).n * (held_plan h).t + 7) / 8) m)
  recovered_acts {text} r =
      record {
        means = unfold Means in
            subst (λ s. Recovering s (state_of h (a ++ drop ((held_plan h).n * (held_plan h).t) v) (b ++ drop (((held_plan h).n * (held_plan h).t + 7) / 8) m)) text) (sym before_state)
            (subst (λ s. Recovering (whole (held_plan h) (take ((held_plan h).n * (held_plan h).t) v) (take (((held_plan h).n * (held_plan h).t + 7) / 8) m)) s text) (sym back_state) r.means);
        kept = back_kept r.spare;
        rest = back_rest;
      }

  pub sealed_acts : Carries (layout_of (held_plan h)) a (map (at (take ((held_plan h).n * (held_plan h).t) v)) (messages (layout_of (held_plan h)))) →
      b ≡ replicate (length (take (((held_plan h).n * (held_plan h).t + 7) / 8) m)) 0 → {count : ℕ} {text : List ℕ} → count ≡ message_count (layout_of (held_plan h)) →
      text ≡ line sealed_word (count ∷ []) →
      Acts Seal h v m text h (a ++ drop ((held_plan h).n * (held_plan h).t) v) (b ++ drop (((held_plan h).n * (held_plan h).t + 7) / 8) m)
  sealed_acts carries clear {count} {text} e f =
      let g = k.good planned in
      let ok = good_valid (held_plan h) g in
      record {
        means = unfold Means state_of in record {
          places = messages (layout_of (held_plan h));
          message_places = message_lists (layout_of (held_plan h)) ok;
          block = a;
          carries = carries;
          state = back_state ∙ after;
          says = f ∙ ap (λ x. line sealed_word (x ∷ [])) (e ∙ sym (message_count_is (held_plan h) g _ (message_lists (layout_of (held_plan h)) ok)));
        };
        kept = back_kept (rw clear (no_marks_no_spare (layout_of (held_plan h)) (length (take (((held_plan h).n * (held_plan h).t + 7) / 8) m))));
        rest = back_rest;
      }
    where
      after : whole (held_plan h) a b ≡ with_block (state_of h v m) a (replicate (mark_bytes (layout_of (held_plan h))) 0)
      after = unfold with_block state_of mark_bytes layout_of layout in
          ap (whole (held_plan h) a) (clear ∙ ap (λ x. replicate x 0) (length-take-le (((held_plan h).n * (held_plan h).t + 7) / 8) m (omega (arith, bytes_most (held_plan h) (k.good planned), k.marks_long))))
