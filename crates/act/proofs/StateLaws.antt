-- What a command that is not refused says of the plan; the parts of the lent buffers that are the state.
-- Main results: place_inside, mark_inside, show_inside, run_inside, shift_inside; places_most, bytes_most;
-- cleared_front, part_rest, begun, marked_take, marked_rest.
use Rattle.std.specs.Prelude.{Some, ◌≡◌, refl, Bool, true, false, List, ◌++◌, ℕ, ◌+◌, ◌-◌, ◌*◌, ◌/◌, ◌%◌, ◌≤◌, ◌<◌, min, length, get_or, take, drop, replicate, Ok}
use Rattle.std.proofs.Common.{sym, ◌∙◌, ap, inr, arith, length-take, length-drop, take_at, drop_at, length-take-le, get_or-take, get_or-drop, ext_get_or}
use Rattle.std.proofs.Math.Logic.{by_cases}
use Rattle.std.proofs.Math.Decide.{dec_lt}
use Rattle.std.proofs.lemmas.List.{length-replicate}
use Rattle.std.proofs.Math.ListN.{get_or-eq_default}
use Rattle.std.proofs.Math.Seq.{length_front}
use borrow.Author.Tests.{ltb-true, leb-true}
use Rattle.refusals.proofs.RefusalLaws.{pass_not_stop, unless_pass}
use Rattle.refusals.specs.declared.Refusal.TheVariants.{Early, Shift}
use Rattle.refusals.specs.Refusals.{Check}
use Rattle.plan.specs.Layout.{layout}
use Rattle.plan.specs.Plans.{layout_of, plan_check}
use Rattle.plan.proofs.PlanLaws.{good_bounds}
use Rattle.plan.specs.declared.Plan.{Plan}
use Rattle.code.specs.Codewords.{bit_of}
use Rattle.code.specs.Marks.{mark, mark_bytes}
use Rattle.code.proofs.Laws.MarksLaws.{same_bits, mark_at}
use Rattle.commands.specs.declared.Command.TheVariants.{SetShift, SetSymbol, MarkOne, MarkRun, Recover, Seal, Show, Figures, Fetch}
use Rattle.state.specs.State.{State, fresh}
use Rattle.bits.specs.Bits.{Marked}
use Rattle.state.specs.Refusing.{early, refusal_of}
use Rattle.bits.specs.MarkedLaws.{Bytes, no_marks_no_spare}
use Rattle.act.specs.Acts.{state_of, Kept, Rest, block_length, marks_length}

-- ---- a command that is not refused

not_early : (a b : Bool) (x : Check) → early a b x ≡ Ok tt → (a ≡ true) × (b ≡ true) × (x ≡ Ok tt)
unfolding early
not_early true true x e = (refl, refl, e)
not_early true false x e = absurd (pass_not_stop Early (sym e))
not_early false b x e = absurd (pass_not_stop Early (sym e))

module _ (s : State) where
  pub place_inside : (c v : ℕ) → refusal_of s (SetSymbol c v) ≡ Ok tt → (s.planned ≡ true) × (c < s.plan.n * s.plan.t)
  unfolding refusal_of
  place_inside c v e = let r = not_early _ _ _ e in (r.0, ltb-true _ _ r.1)

  pub mark_inside : (c : ℕ) → refusal_of s (MarkOne c) ≡ Ok tt → (s.planned ≡ true) × (c < s.plan.n * s.plan.t)
  unfolding refusal_of
  mark_inside c e = let r = not_early _ _ _ e in (r.0, ltb-true _ _ r.1)

  pub show_inside : (c : ℕ) → refusal_of s (Show c) ≡ Ok tt → (s.planned ≡ true) × (c < s.plan.n * s.plan.t)
  unfolding refusal_of
  show_inside c e = let r = not_early _ _ _ e in (r.0, ltb-true _ _ r.1)

  pub run_inside : (c m : ℕ) → refusal_of s (MarkRun c m) ≡ Ok tt → (s.planned ≡ true) × (c + m ≤ s.plan.n * s.plan.t)
  unfolding refusal_of
  run_inside c m e = let r = not_early _ _ _ e in (r.0, leb-true _ _ r.1)

  pub shift_inside : (j p : ℕ) → refusal_of s (SetShift j p) ≡ Ok tt → (s.planned ≡ true) × (j < s.plan.n) × (p < s.plan.t)
  unfolding refusal_of
  shift_inside j p e = let r = not_early _ _ _ e in (r.0, ltb-true _ _ r.1, ltb-true _ _ (unless_pass _ Shift r.2))

  pub recover_planned : refusal_of s Recover ≡ Ok tt → s.planned ≡ true
  unfolding refusal_of
  recover_planned e = (not_early _ _ _ e).0

  pub seal_planned : refusal_of s Seal ≡ Ok tt → s.planned ≡ true
  unfolding refusal_of
  seal_planned e = (not_early _ _ _ e).0

  pub figures_planned : refusal_of s Figures ≡ Ok tt → s.planned ≡ true
  unfolding refusal_of
  figures_planned e = (not_early _ _ _ e).0

  pub fetch_planned : refusal_of s Fetch ≡ Ok tt → s.planned ≡ true
  unfolding refusal_of
  fetch_planned e = (not_early _ _ _ e).0

-- ---- the lengths

module _ (p : Plan) (g : plan_check p ≡ Ok tt) where
  pub places_most : p.n * p.t ≤ block_length
  places_most = (good_bounds p g).places_max

  pub bytes_most : (p.n * p.t + 7) / 8 ≤ marks_length
  bytes_most = omega (arith, places_most)

  pub places_fit : (v : List ℕ) → length v ≡ block_length → p.n * p.t ≤ length v
  places_fit v e = omega (arith, places_most)

  pub bytes_fit : (m : List ℕ) → length m ≡ marks_length → (p.n * p.t + 7) / 8 ≤ length m
  bytes_fit m e = omega (arith, bytes_most)

-- ---- parts of a buffer

pub front_long : (k : ℕ) (v : List ℕ) → k ≤ length v → k ≡ length (take k v)
front_long k v h = sym (length-take-le k v h)

-- a part that came back to the front of its buffer
pub part_back : (k : ℕ) (v a : List ℕ) → k ≤ length v → length a ≡ length (take k v) → take k (a ++ drop k v) ≡ a
part_back k v a h e = take_at a (drop k v) k (e ∙ length-take-le k v h)

pub part_long : (k : ℕ) (v a : List ℕ) → k ≤ length v → length a ≡ length (take k v) → length (a ++ drop k v) ≡ length v
part_long k v a h e = length_front v a k e

pub cleared_front : (k : ℕ) (v a : List ℕ) → k ≤ length v → a ≡ replicate (length (take k v)) 0 → take k (a ++ drop k v) ≡ replicate k 0
cleared_front k v a h e =
    part_back k v a h (ap length e ∙ length-replicate _ 0) ∙ e ∙ ap (λ x. replicate x 0) (length-take-le k v h)

-- what stands past the part is kept
pub part_rest : (k : ℕ) (v a : List ℕ) → k ≤ length v → length a ≡ length (take k v) → drop k (a ++ drop k v) ≡ drop k v
part_rest k v a h e = drop_at a (drop k v) k (e ∙ length-take-le k v h)

-- ---- a new plan

pub begun : (p : Plan) (v m v' m' : List ℕ) → plan_check p ≡ Ok tt → length v' ≡ block_length → length m' ≡ marks_length →
    take (p.n * p.t) v' ≡ replicate (p.n * p.t) 0 → take ((p.n * p.t + 7) / 8) m' ≡ replicate ((p.n * p.t + 7) / 8) 0 →
    drop (p.n * p.t) v' ≡ drop (p.n * p.t) v → drop ((p.n * p.t + 7) / 8) m' ≡ drop ((p.n * p.t + 7) / 8) m →
    (state_of (Some p) v' m' ≡ fresh p) × Kept (Some p) v' m' × Rest (Some p) v m v' m'
unfolding state_of fresh mark_bytes layout_of layout
begun p v m v' m' g a b e f x y = (
  rw (e, f),
  record {
    good = λ _. g;
    spare = λ _. rw f (no_marks_no_spare (layout_of p) ((p.n * p.t + 7) / 8));
    block_long = a;
    marks_long = b;
  },
  record { block = x; marks = y },
)

-- ---- marks of the front part

mark_front : (k : ℕ) (m : List ℕ) (d : ℕ) → d / 8 < k → mark (take k m) d ≡ mark m d
unfolding mark
mark_front k m d h = ap (bit_of (d % 8)) (get_or-take k m (d / 8) 0 h)

mark_past : (k : ℕ) (m m' : List ℕ) (d : ℕ) → k ≤ d / 8 → mark (take k m) d ≡ mark (take k m') d
unfolding mark
mark_past k m m' d h =
    ap (bit_of (d % 8))
    (get_or-eq_default (take k m) 0 (omega (arith, length-take k m))
    ∙ sym (get_or-eq_default (take k m') 0 (omega (arith, length-take k m'))))

byte_front : (k : ℕ) (m : List ℕ) → ((i : ℕ) → get_or m i 0 < 256) → (i : ℕ) → get_or (take k m) i 0 < 256
byte_front k m h i =
    by_cases (dec_lt i k)
    (λ l. rw (get_or-take k m i 0 l) (h i))
    (λ n. let past : length (take k m) ≤ i = omega (arith, length-take k m) in rw (get_or-eq_default (take k m) 0 past) (omega arith))

pub marked_take : (j : ℕ) {m m' : List ℕ} {c k b : ℕ} → Marked m c k b m' → c + k ≤ 8 * j → Marked (take j m) c k b (take j m')
marked_take j {m} {m'} {c} {k} {b} p h =
    record {
      long = length-take j m' ∙ ap (min j) p.long ∙ sym (length-take j m);
      bytes = byte_front j m' p.bytes;
      these = λ d g l. mark_front j m' d (omega arith) ∙ p.these d g l;
      others = λ d o. by_cases (dec_lt (d / 8) j)
          (λ l. mark_front j m' d l ∙ p.others d o ∙ sym (mark_front j m d l))
          (λ n. mark_past j m' m d (omega arith));
    }

-- ---- bytes past the marks

-- whole bytes past the places that were marked are kept
pub marked_rest : (j : ℕ) {m m' : List ℕ} {c k b : ℕ} → Bytes m → Marked m c k b m' → c + k ≤ 8 * j → drop j m' ≡ drop j m
marked_rest j {m} {m'} {c} {k} {b} w p h =
    ext_get_or 0 (drop j m') (drop j m) (length-drop j m' ∙ ap (λ x. x - j) p.long ∙ sym (length-drop j m))
    (λ i _. get_or-drop j m' i 0
    ∙ same_bits 8 (get_or m' (j + i) 0) (get_or m (j + i) 0) (p.bytes (j + i)) (w (j + i))
    (λ d l. sym (mark_at m' (j + i) d l) ∙ p.others (8 * (j + i) + d) (inr (omega arith)) ∙ mark_at m (j + i) d l)
    ∙ sym (get_or-drop j m i 0))
