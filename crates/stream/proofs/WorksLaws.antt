-- How the library keeps what it promises of a job that is read in parts.
-- Main definition: Ready. Main results: stream_ready, ready_passes; went_to; works_bad, works_passed; front_part, back_long; taken_filled, taken_last, taken_goes, taken_over.
use Rattle.std.specs.Prelude.{◌≡◌, ◌≢◌, Bool, ◌&&◌, List, ◌++◌, ℕ, ◌+◌, ◌-◌, ◌^◌, ◌≤◌, ◌<◌, min, eqb, leb, ltb, ℤ, pos, negsuc, Ok, Err}
use Rattle.std.proofs.Math.Path.{refl, sym, ap, subst}
use Rattle.std.proofs.Common.{◌∙◌, length-take, take-append-drop, take-take, take_all, eqb-true, leb-true, ltb-true, ltb-false, eq-eqb, lt-ltb, le-ltb, le-leb, ⊎_elim}
use Rattle.std.proofs.Math.Logic.{inl, inr, by_cases}
use Rattle.std.proofs.Math.Bool.{true, false, cond, not, true≢false}
use Rattle.std.proofs.Math.Decide.{dec_le}
use native.Mathlib.Omega.{arith}
use Rattle.std.proofs.Math.ListN.{length, take, drop, length-drop}
use Rattle.std.proofs.Math.Seq.{length-take-le}
use Rattle.std.proofs.lemmas.Bool.{lt-leb}
use Rattle.math.specs.Tests.{and_left, and_right}
use Rattle.io.specs.Counts.{clamp_len}
use Rattle.refusals.specs.declared.Refusal.{Refusal}
use Rattle.commands.specs.Commands.{longest}
use Rattle.lines.specs.Lines.{line_length}
use Rattle.state.specs.State.{State}
use Rattle.act.specs.Acts.{Kept, block_length, marks_length, Held}
use Rattle.standing.specs.StandingLaws.{state_passed, state_passes}
use Rattle.reading.specs.Cursors.{hand, top_offset, reach_of}
use Rattle.reading.specs.CursorLaws.{drop_take}
use Rattle.reading.specs.declared.Cursor.{Cursor}
use Rattle.one_sheet.specs.ParsedLaws.{zero_one}
use Rattle.one_sheet.specs.Performed.{Performed}
use Rattle.one_sheet.proofs.PerformedLaws.{performed_more}
use Rattle.stream.specs.Course.{Waits, Closes, Course}
use Rattle.stream.specs.declared.Halt.{Halt}
use Rattle.stream.specs.declared.Halt.TheVariants as halts
use Rattle.stream.proofs.CourseLaws.{wants}
use Rattle.stream.specs.Streams.{stream_fits, stream_check, phase_after, moved_of, ask_of, goes, asks_read, tidy, tidy_input, lost_of, read_of, taken_of}
use Rattle.stream.specs.Works.{below, Went, Advances, Works}
use Rattle.stream.specs.declared.Stream.{Stream}
use Rattle.stream.specs.declared.Phase.{Phase}
use Rattle.stream.specs.declared.Phase.TheVariants.{Going, Closed, Past, Lost}
use Rattle.stream.specs.declared.Ask.{Ask}
use Rattle.stream.specs.declared.Ask.TheVariants as ask

-- ---- a lent state that passes

pub record Ready (s : Stream) (v m l i : List ℕ) : Type 0 where
  pub kept : Kept s.held v m
  pub sheet : line_length ≤ length l
  pub input : longest ≤ length i
  pub ordered : s.cursor.at ≤ s.cursor.end
  pub inside : s.cursor.end ≤ length i
  pub waits : s.filled ≤ length l

pub stream_ready : (s : Stream) (v m l i : List ℕ) → stream_check s v m l i ≡ Ok tt → Ready s v m l i
unfolding stream_check stream_fits
stream_ready s v m l i e =
    let at = s.cursor.at in
    let end = s.cursor.end in
    let fits = stream_fits at end s.filled (length v) (length m) (length l) (length i) in
    let p = state_passed s.held fits m e in
    let a = eqb (length v) block_length in
    let b = eqb (length m) marks_length in
    let c = leb line_length (length l) in
    let d = leb longest (length i) in
    let f = leb at end in
    let g = leb end (length i) in
    let q6 = and_left (a && b && c && d && f && g) (leb s.filled (length l)) p.0 in
    let q5 = and_left (a && b && c && d && f) g q6 in
    let q4 = and_left (a && b && c && d) f q5 in
    let q3 = and_left (a && b && c) d q4 in
    let q2 = and_left (a && b) c q3 in
    record {
      kept = record { good = p.1; spare = p.2; block_long = eqb-true _ _ (and_left a b q2); marks_long = eqb-true _ _ (and_right a b q2) };
      sheet = leb-true _ _ (and_right (a && b) c q3);
      input = leb-true _ _ (and_right (a && b && c) d q4);
      ordered = leb-true _ _ (and_right (a && b && c && d) f q5);
      inside = leb-true _ _ (and_right (a && b && c && d && f) g q6);
      waits = leb-true _ _ (and_right (a && b && c && d && f && g) (leb s.filled (length l)) p.0);
    }

-- and the other way: a stream whose plan is kept and whose buffers fit passes
pub ready_passes : (s : Stream) (v m l i : List ℕ) → Ready s v m l i → stream_check s v m l i ≡ Ok tt
unfolding stream_check stream_fits
ready_passes s v m l i r =
    state_passes s.held (stream_fits s.cursor.at s.cursor.end s.filled (length v) (length m) (length l) (length i)) m r.kept
    (simp (eq-eqb (length v) block_length r.kept.block_long, eq-eqb (length m) marks_length r.kept.marks_long, le-leb line_length (length l) r.sheet, le-leb longest (length i) r.input, le-leb s.cursor.at s.cursor.end r.ordered, le-leb s.cursor.end (length i) r.inside, le-leb s.filled (length l) r.waits))

-- ---- the phase after some commands

after_closed : (halt : Halt) (cut : Bool) → phase_after halt cut ≡ Closed → halt ≡ halts.Closed
unfolding phase_after
after_closed halts.Closed cut e = refl
after_closed halts.Input true e = absurd (zero_one (cc))
after_closed halts.Input false e = absurd (zero_one (cc))
after_closed halts.On cut e = absurd (zero_one (cc))
after_closed halts.Room cut e = absurd (zero_one (cc))

after_past : (halt : Halt) (cut : Bool) → phase_after halt cut ≡ Past → (halt ≡ halts.Input) × (cut ≡ true)
unfolding phase_after
after_past halts.Closed cut e = absurd (zero_one (cc))
after_past halts.Input true e = (refl, refl)
after_past halts.Input false e = absurd (zero_one (cc))
after_past halts.On cut e = absurd (zero_one (cc))
after_past halts.Room cut e = absurd (zero_one (cc))

after_going : (halt : Halt) (cut : Bool) → phase_after halt cut ≡ Going → (halt ≢ halts.Closed) × (halt ≡ halts.Input → cut ≡ false)
unfolding phase_after
after_going halts.Closed cut e = absurd (zero_one (cc))
after_going halts.Input true e = absurd (zero_one (cc))
after_going halts.Input false e = (λ z. zero_one (cc), λ _. refl)
after_going halts.On cut e = (λ z. zero_one (cc), λ z. absurd (zero_one (cc)))
after_going halts.Room cut e = (λ z. zero_one (cc), λ z. absurd (zero_one (cc)))

after_lost : (halt : Halt) (cut : Bool) → phase_after halt cut ≢ Lost
unfolding phase_after
after_lost halts.Closed cut e = zero_one (cc)
after_lost halts.Input true e = zero_one (cc)
after_lost halts.Input false e = zero_one (cc)
after_lost halts.On cut e = zero_one (cc)
after_lost halts.Room cut e = zero_one (cc)

all_below : (e a o x : ℕ) → e ≤ top_offset - o → x ≡ e - a → x ≤ top_offset - (o + a)
all_below e a o x h f = omega arith

rest_longer : (m a e x : ℕ) → m < e → a ≤ m → x ≡ e - a → m - a < x
rest_longer m a e x h g f = omega arith

-- ---- the numbers fit

pub part_fits_lem : (o k : ℕ) (l : List ℕ) → o + k < 2 ^ 64 → o + length (take k l) < 2 ^ 64
part_fits_lem o k l h = omega (arith, length-take k l)

pub reach_fits : (o at k x n : ℕ) (l : List ℕ) → x ≤ length (take k l) → o + k < 2 ^ 64 → at + k ≤ n → n < 2 ^ 64 → (at + x < 2 ^ 64) × (o + x < 2 ^ 64)
reach_fits o at k x n l h f g e = (omega (arith, length-take k l), omega (arith, length-take k l))

-- the bytes at hand below the highest offset
pub below_fits : (c : Cursor) → c.offset < 2 ^ 64 → c.offset + (reach_of c - c.at) < 2 ^ 64
below_fits c h = omega arith

pub below_inside : (c : Cursor) (n : ℕ) → c.at ≤ c.end → c.end ≤ n → c.at + (reach_of c - c.at) ≤ n
below_inside c n h g = omega arith

-- ---- the commands at hand

-- a line that closes, said of other bytes and another end
closes_same : {last last' : Bool} {o : ℕ} {s : State} {b b' said : List ℕ} → last' ≡ last → b' ≡ b → Closes last o s b said → Closes last' o s b' said
closes_same {o = o} {s} {said = said} e f c = rw (e, f) c

last_all : (last : Bool) (n k : ℕ) → n ≤ k → (last && leb n k) ≡ last
last_all true n k h = le-leb n k h
last_all false n k h = refl

last_cut : (last : Bool) (n k : ℕ) → k < n → (last && leb n k) ≡ false
last_cut true n k h = lt-leb n k h
last_cut false n k h = refl

module _ (s : Stream) (v m l i : List ℕ) (r : Ready s v m l i) {h' : Held} {v' m' : List ℕ} {at' : ℕ} {l' : List ℕ} {to' : ℕ} {halt : Halt} where
  -- all of them stand below the highest offset
  went_all : s.cursor.end - s.cursor.at ≤ top_offset - s.cursor.offset →
      Course (take (s.cursor.end - s.cursor.at) (drop s.cursor.at i)) s.last s.cursor.offset s.held v m 0 l s.filled h' v' m' at' l' to' halt → (halt ≡ halts.On → ⊥) →
      Went s v m l i (moved_of s h' at' to' halt false) v' m' l'
  unfolding hand moved_of
  went_all low c n =
      let here = take (s.cursor.end - s.cursor.at) (drop s.cursor.at i) in
      let lh : length here ≡ s.cursor.end - s.cursor.at = length-take-le (s.cursor.end - s.cursor.at) (drop s.cursor.at i) (omega (arith, r.inside, r.ordered, length-drop s.cursor.at i)) in
      let few : length (drop at' here) ≤ top_offset - (s.cursor.offset + at') = all_below (s.cursor.end - s.cursor.at) at' s.cursor.offset (length (drop at' here)) low (length-drop at' here ∙ ap (λ q. q - at') lh) in
      record {
        used = at';
        text = c.text;
        said = c.said;
        performed = c.performed;
        wrote = c.wrote;
        room = c.room;
        kept = c.kept;
        at = refl;
        end = refl;
        offset = refl;
        inside = c.inside;
        last = refl;
        going = λ e. let g = after_going halt false e in (c.quiet g.0, ⊎_elim (λ y. let q = c.input y in inl (q.0, few, q.1)) (λ z. inr (c.full z)) (wants halt n g.0));
        closed = λ e. closes_same (last_all s.last (length (drop at' here)) (top_offset - (s.cursor.offset + at')) few) (take_all (top_offset - (s.cursor.offset + at')) (drop at' here) few) (c.closed (after_closed halt false e));
        past = λ e. absurd (true≢false (sym (after_past halt false e).1));
        not_lost = after_lost halt false;
      }

  -- those below the highest offset, where some stand at it or past it
  went_cut : (cut : ℕ) → cut ≡ s.cursor.at + (top_offset - s.cursor.offset) → top_offset - s.cursor.offset < s.cursor.end - s.cursor.at → s.cursor.offset ≤ top_offset →
      Course (take (cut - s.cursor.at) (drop s.cursor.at i)) false s.cursor.offset s.held v m 0 l s.filled h' v' m' at' l' to' halt → (halt ≡ halts.On → ⊥) →
      Went s v m l i (moved_of s h' at' to' halt true) v' m' l'
  unfolding hand moved_of
  went_cut cut x less low c n =
      let at = s.cursor.at in
      let end = s.cursor.end in
      let most = top_offset - s.cursor.offset in
      let k : cut - at ≡ most = omega arith in
      let here = take (end - at) (drop at i) in
      let part = take (cut - at) (drop at i) in
      let past = drop most here in
      let lh : length here ≡ end - at = length-take-le (end - at) (drop at i) (omega (arith, r.inside, r.ordered, length-drop at i)) in
      let lp : length part ≡ most = length-take-le (cut - at) (drop at i) (omega (arith, r.inside, r.ordered, length-drop at i)) ∙ k in
      let same : part ≡ take most here = ap (λ q. take q (drop at i)) k ∙ sym (take-take most (end - at) (drop at i) (omega arith)) in
      let whole : here ≡ part ++ past = sym (take-append-drop most here) ∙ ap (λ q. q ++ past) (sym same) in
      let inside : at' ≤ most = subst (λ q. at' ≤ q) lp c.inside in
      let left : top_offset - (s.cursor.offset + at') ≡ most - at' = omega arith in
      let under : below (s.cursor.offset + at') (drop at' here) ≡ drop at' part = sym (ap (drop at') same ∙ drop_take at' most here ∙ ap (λ q. take q (drop at' here)) (sym left)) in
      let longer : top_offset - (s.cursor.offset + at') < length (drop at' here) =
      subst (λ q. q < length (drop at' here)) (sym left) (rest_longer most at' (end - at) (length (drop at' here)) less inside (length-drop at' here ∙ ap (λ q. q - at') lh)) in
      record {
        used = at';
        text = c.text;
        said = c.said;
        performed = subst (λ q. Performed q s.held v m 0 c.text h' v' m' at') (sym whole) (performed_more past c.performed (omega arith));
        wrote = c.wrote;
        room = c.room;
        kept = c.kept;
        at = refl;
        end = refl;
        offset = refl;
        inside = omega (arith, lh, inside, less);
        last = refl;
        going = λ e. let g = after_going halt true e in (c.quiet g.0, inr (c.full (⊎_elim (λ y. absurd (true≢false (g.1 y))) (λ z. z) (wants halt n g.0))));
        closed = λ e. closes_same (last_cut s.last (length (drop at' here)) (top_offset - (s.cursor.offset + at')) longer) under (c.closed (after_closed halt true e));
        past = λ e. (c.quiet (λ z. let a = (after_past halt true e).0 in zero_one (cc)), longer, subst Waits (sym under) (c.input (after_past halt true e).0).1);
        not_lost = after_lost halt true;
      }

  -- those that stand below it, as far as they reach
  went_reach : (cut : Bool) → cut ≡ ltb (reach_of s.cursor) s.cursor.end → s.cursor.offset ≤ top_offset →
      Course (take (reach_of s.cursor - s.cursor.at) (drop s.cursor.at i)) (s.last && not cut) s.cursor.offset s.held v m 0 l s.filled h' v' m' at' l' to' halt → (halt ≡ halts.On → ⊥) →
      Went s v m l i (moved_of s h' at' to' halt cut) v' m' l'
  went_reach true e low c n =
      let less = ltb-true (reach_of s.cursor) s.cursor.end (sym e) in
      let g : reach_of s.cursor ≡ s.cursor.at + (top_offset - s.cursor.offset) = omega arith in
      went_cut (reach_of s.cursor) g (omega arith) low (subst (λ q. Course (take (reach_of s.cursor - s.cursor.at) (drop s.cursor.at i)) q s.cursor.offset s.held v m 0 l s.filled h' v' m' at' l' to' halt) (never s.last) c) n
    where
      never : (b : Bool) → (b && false) ≡ false
      never true = refl
      never false = refl
  went_reach false e low c n =
      let more = ltb-false (reach_of s.cursor) s.cursor.end (sym e) in
      let g : reach_of s.cursor - s.cursor.at ≡ s.cursor.end - s.cursor.at = omega (arith, r.ordered) in
      went_all (omega (arith, r.ordered))
      (subst (λ q. Course (take q (drop s.cursor.at i)) s.last s.cursor.offset s.held v m 0 l s.filled h' v' m' at' l' to' halt) g
      (subst (λ q. Course (take (reach_of s.cursor - s.cursor.at) (drop s.cursor.at i)) q s.cursor.offset s.held v m 0 l s.filled h' v' m' at' l' to' halt) (always s.last) c)) n
    where
      always : (b : Bool) → (b && true) ≡ b
      always true = refl
      always false = refl

  -- the same, as the code says it
  pub went_to : (to : ℕ) (last : Bool) → to ≡ reach_of s.cursor → last ≡ (s.last && not (ltb to s.cursor.end)) → s.cursor.offset ≤ top_offset →
      Course (take (to - s.cursor.at) (drop s.cursor.at i)) last s.cursor.offset s.held v m 0 l s.filled h' v' m' at' l' to' halt → (halt ≡ halts.On → ⊥) →
      Went s v m l i (moved_of s h' at' to' halt (ltb to s.cursor.end)) v' m' l'
  went_to to last e f low c n =
      went_reach (ltb to s.cursor.end) (ap (λ q. ltb q s.cursor.end) e) low
      (subst (λ q. Course (take (q - s.cursor.at) (drop s.cursor.at i)) (s.last && not (ltb to s.cursor.end)) s.cursor.offset s.held v m 0 l s.filled h' v' m' at' l' to' halt) e
      (subst (λ q. Course (take (to - s.cursor.at) (drop s.cursor.at i)) q s.cursor.offset s.held v m 0 l s.filled h' v' m' at' l' to' halt) f c)) n

-- ---- the whole call

pub works_bad : (s : Stream) (v m l i : List ℕ) (x : Refusal) → stream_check s v m l i ≡ Err x → Works s v m l i (ask.Bad x) s v m l i
works_bad s v m l i x e = record {
  bad = λ y q. let f : x ≡ y = cc in (ap ask.Bad f, refl, refl, refl, refl, refl);
  passed = λ q. absurd (zero_one (cc));
}

pub works_passed : {s : Stream} {v m l i : List ℕ} {a : Ask} {s' t : Stream} {v' m' l' i' : List ℕ} → stream_check s v m l i ≡ Ok tt → Advances s v m l i t v' m' l' →
    (a ≡ ask_of t) × (s' ≡ tidy t i) × (i' ≡ tidy_input t i) → Works s v m l i a s' v' m' l' i'
works_passed {t = t} e d q = record {
  bad = λ x f. absurd (zero_one (cc));
  passed = λ _. (t, d, q.0, q.1, q.2);
}

-- ---- the phases

pub advances_goes : {s : Stream} {v m l i : List ℕ} {s' : Stream} {v' m' l' : List ℕ} → s.phase ≡ Going → Went s v m l i s' v' m' l' → Advances s v m l i s' v' m' l'
advances_goes e w = record { goes = λ _. w; over = λ n. absurd (n e) }

pub advances_over : (s : Stream) (v m l i : List ℕ) → (s.phase ≢ Going) → Advances s v m l i s v m l
advances_over s v m l i n = record { goes = λ e. absurd (n e); over = λ _. (refl, refl, refl, refl) }

pub not_closed : {p : Phase} → p ≡ Closed → p ≢ Going
not_closed e f = zero_one (cc)

pub not_past : {p : Phase} → p ≡ Past → p ≢ Going
not_past e f = zero_one (cc)

pub not_lost : {p : Phase} → p ≡ Lost → p ≢ Going
not_lost e f = zero_one (cc)

-- ---- parts of the buffers

pub front_part : (x k : ℕ) (l : List ℕ) → x ≡ min k (length l) → take x l ≡ take k l
front_part x k l e =
    by_cases (dec_le k (length l))
    (λ h. let f : x ≡ k = omega arith in ap (λ y. take y l) f)
    (λ n. take_all x l (omega arith) ∙ sym (take_all k l (omega arith)))

pub front_long : (x k : ℕ) (l : List ℕ) → x ≡ min k (length l) → x ≡ length (take x l)
front_long x k l e = sym (length-take-le x l (omega arith))

-- what stands behind index k
pub back_long : (k : ℕ) (l : List ℕ) → length (take (length l - k) (drop k l)) ≡ length l - k
back_long k l = ap length (take_all (length l - k) (drop k l) (omega (arith, length-drop k l))) ∙ length-drop k l

pub clamped_most : (z : ℤ) (n : ℕ) → clamp_len z n ≤ n
clamped_most (pos k) n = omega arith
clamped_most (negsuc k) n = omega arith

-- what was read stands in the input
pub clamped_fits : (z : ℤ) (k n : ℕ) (l : List ℕ) → k < length l → length l < 2 ^ 64 → n ≡ clamp_len z (length (take (length l - k) (drop k l))) → k + n < 2 ^ 64
clamped_fits z k n l h a f = let c = clamped_most z (length (take (length l - k) (drop k l))) in let d = back_long k l in omega arith

-- ---- a read

module _ (s : Stream) (n : ℕ) where
  pub taken_filled : 0 < s.filled → taken_of s n ≡ lost_of s
  unfolding taken_of asks_read
  taken_filled h = rw (lt-ltb 0 s.filled h)

  pub taken_last : s.last ≡ true → taken_of s n ≡ lost_of s
  unfolding taken_of
  taken_last e = subst (λ z. cond (asks_read s && not z) (read_of s n) (lost_of s) ≡ lost_of s) (sym e) (go (asks_read s))
    where
      go : (b : Bool) → cond (b && false) (read_of s n) (lost_of s) ≡ lost_of s
      go true = refl
      go false = refl

  pub taken_goes : s.filled ≤ 0 → s.last ≡ false → s.phase ≡ Going → taken_of s n ≡ read_of s n
  unfolding taken_of asks_read goes
  taken_goes h e f = rw (le-ltb 0 s.filled h, e, f)

  pub taken_over : goes s.phase ≡ false → taken_of s n ≡ lost_of s
  unfolding taken_of asks_read
  taken_over e = subst (λ z. cond (not (ltb 0 s.filled) && z && not s.last) (read_of s n) (lost_of s) ≡ lost_of s) (sym e) (go (not (ltb 0 s.filled)))
    where
      go : (b : Bool) → cond (b && false && not s.last) (read_of s n) (lost_of s) ≡ lost_of s
      go true = refl
      go false = refl

-- a phase in which the job does not go on
pub over_closed : {p : Phase} → p ≡ Closed → goes p ≡ false
unfolding goes
over_closed e = rw e

pub over_past : {p : Phase} → p ≡ Past → goes p ≡ false
unfolding goes
over_past e = rw e

pub over_lost : {p : Phase} → p ≡ Lost → goes p ≡ false
unfolding goes
over_lost e = rw e
