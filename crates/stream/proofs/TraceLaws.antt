-- What holds all along of a program that does what it is asked.
-- Main definition: Holds. Main results: trace_holds; ask_read, ask_closed, hand_moved.
use Rattle.std.specs.Prelude.{◌≡◌, refl, ◌⊎◌, ◌≢◌, Bool, true, false, cond, ◌&&◌, not, List, [], ◌++◌, ℕ, zero, suc, ◌+◌, ◌-◌, ◌≤◌, ◌<◌, min, ltb, eqb, leb, ℤ, pos, negsuc, length, take, drop, Ok}
use Rattle.std.proofs.Common.{sym, ◌∙◌, ap, subst, inl, inr, ⊎_elim, true≢false, append_assoc, append-nil, arith, ltb-true, ltb-false, eqb-true, leb-true, length-drop, length-append, take-append-drop, drop-drop, length-take-le, take_at, take-take}
use Rattle.math.specs.Tests.{and_left, and_right}
use Rattle.std.proofs.lemmas.List.{drop-append-le}
use Rattle.std.proofs.Math.Seq.{take-append-add}
use Rattle.io.specs.Counts.{clamp_len}
use Rattle.refusals.proofs.RefusalLaws.{stop_or_pass}
use Rattle.commands.specs.Commands.{longest, parsed}
use Rattle.commands.specs.declared.Command.{Command}
use Rattle.commands.specs.declared.Parsed.TheVariants.{Whole}
use Rattle.state.specs.Refusing.{refusal_of}
use Rattle.state.specs.State.{State}
use Rattle.lines.specs.Lines.{line_length}
use Rattle.act.specs.Acts.{state_of, block_length, marks_length}
use Rattle.turns.specs.Sheets.{Sheet, start}
use Rattle.one_sheet.specs.OneSheet.{one_sheet}
use Rattle.one_sheet.specs.ParsedLaws.{zero_one}
use Rattle.one_sheet.specs.Begins.{Begins, nothing_yet, begins_more, begins_sheet, begins_longer, held_start}
use Rattle.one_sheet.proofs.PerformedLaws.{performed_begins}
use Rattle.reading.specs.Cursors.{hand, carried_of, top_offset}
use Rattle.reading.specs.CursorLaws.{hand_carried, drop_take, none_empty}
use Rattle.reading.specs.declared.Cursor.{Cursor}
use Rattle.stream.specs.Streams.{opened_at, stream_check, ask_of, phase_ask, goes, asks_read, with_cursor, tidy, tidy_input, lost_of, written_of, read_of, taken_of, brought_of}
use Rattle.stream.specs.Works.{Went, Works, below, last_below}
use Rattle.stream.proofs.WorksLaws.{Ready, stream_ready, not_closed, clamped_most}
use Rattle.stream.specs.Trace.{Filled, ended_by, Trace, opens, works, writes, writes_some, reads, Later, Stands}
use Rattle.stream.specs.declared.Stream.{Stream}
use Rattle.stream.specs.declared.Phase.{Phase}
use Rattle.stream.specs.declared.Phase.TheVariants.{Going, Closed, Past, Lost}
use Rattle.stream.specs.declared.Ask.{Ask}
use Rattle.stream.specs.declared.Ask.TheVariants as ask

-- what holds all along
pub record Holds (job : List ℕ) (ended : Bool) (out : List ℕ) (s : Stream) (v m l i : List ℕ) : Type 0 where
  pub last : s.last ≡ true → ended ≡ true
  pub ready : length v ≡ block_length → length m ≡ marks_length → line_length ≤ length l → longest ≤ length i → Ready s v m l i
  pub stands : s.phase ≡ Closed → Stands job s v m
  pub going : s.phase ≡ Going →
      Begins job s.cursor.offset (state_of s.held v m) (out ++ take s.filled l) × (drop s.cursor.offset job ≡ hand s.cursor i)
      × (s.cursor.offset ≤ length job) × (s.cursor.at ≤ s.cursor.end) × (s.cursor.end ≤ length i)
  pub closed : s.phase ≡ Closed → (later : List ℕ) → Later ended later → Sheet 0 start (job ++ later) (out ++ take s.filled l)
  pub starts : (later x : List ℕ) → Later ended later → Sheet 0 start (job ++ later) x → (rest : List ℕ) × (x ≡ (out ++ take s.filled l) ++ rest)

-- a job that goes on, or went on up to the highest offset
begun_starts : {job : List ℕ} {o : ℕ} {s : State} {text : List ℕ} → Begins job o s text → (later x : List ℕ) → Sheet 0 start (job ++ later) x → (rest : List ℕ) × (x ≡ text ++ rest)
begun_starts b later x t = let r = begins_sheet (begins_longer later b) t in (r.rest, r.parts)

-- a job that is closed
shut_starts : {job said x : List ℕ} → Sheet 0 start job said → Sheet 0 start job x → (rest : List ℕ) × (x ≡ said ++ rest)
shut_starts {said = said} p q = ([], one_sheet q p ∙ sym (append-nil said))

opens_holds : (v m l i : List ℕ) → Holds [] false [] opened_at v m l i
unfolding hand
opens_holds v m l i =
    let b : Begins [] 0 (state_of opened_at.held v m) ([] ++ take 0 l) = subst (λ (x : State). Begins [] 0 x []) (sym (held_start v m)) nothing_yet in
    record {
      last = λ e. absurd (true≢false (sym e));
      ready = λ a c d f. record { kept = record { good = λ q. absurd (zero_one (cc)); spare = λ q. absurd (zero_one (cc)); block_long = a; marks_long = c }; sheet = d; input = f; ordered = omega arith; inside = omega arith; waits = omega arith };
      stands = λ e. absurd (zero_one (cc));
      going = λ _. (b, refl, omega arith, omega arith, omega arith);
      closed = λ e. absurd (zero_one (cc));
      starts = λ later x _ t. begun_starts b later x t;
    }

-- ---- work

pub hand_moved : (c d : Cursor) (used : ℕ) (i : List ℕ) → d.at ≡ c.at + used → d.end ≡ c.end → hand d i ≡ drop used (hand c i)
unfolding hand
hand_moved c d used i e f =
    let g : c.end - (c.at + used) ≡ c.end - c.at - used = omega arith in
    rw (e, f, g) (sym (drop_take used (c.end - c.at) (drop c.at i) ∙ ap (take (c.end - c.at - used)) (drop-drop used c.at i)))

hand_long : (c : Cursor) (i : List ℕ) → c.at ≤ c.end → c.end ≤ length i → length (hand c i) ≡ c.end - c.at
unfolding hand
hand_long c i h g = length-take-le (c.end - c.at) (drop c.at i) (omega (arith, length-drop c.at i))

module _ {job : List ℕ} {ended : Bool} {out : List ℕ} {s : Stream} {v m l i : List ℕ} (k : Holds job ended out s v m l i) (r : Ready s v m l i) (e : s.phase ≡ Going) {t : Stream} {v' m' l' : List ℕ} (w : Went s v m l i t v' m' l') where
  abbrev before : List ℕ
  before = out ++ take s.filled l

  went_begins : Begins job t.cursor.offset (state_of t.held v' m') (before ++ w.text)
  went_begins =
      let g = k.going e in
      let z : s.cursor.offset ≡ s.cursor.offset + 0 = omega arith in
      subst (λ o. Begins job o (state_of t.held v' m') (before ++ w.text)) (sym w.offset)
      (performed_begins s.cursor.offset g.1 (subst (λ o. Begins job o (state_of s.held v m) before) z g.0) w.performed)

  went_text : out ++ take t.filled l' ≡ (before ++ w.text) ++ w.said
  went_text =
      ap (λ x. out ++ x) w.wrote.text_stands ∙ sym (append_assoc out (take s.filled l) (w.text ++ w.said)) ∙ sym (append_assoc before w.text w.said)

  went_quiet : w.said ≡ [] → before ++ w.text ≡ out ++ take t.filled l'
  went_quiet q = sym (went_text ∙ ap (λ x. (before ++ w.text) ++ x) q ∙ append-nil (before ++ w.text))

  went_hand : drop t.cursor.offset job ≡ drop w.used (hand s.cursor i)
  went_hand = ap (λ o. drop o job) w.offset ∙ sym (drop-drop w.used s.cursor.offset job) ∙ ap (drop w.used) (k.going e).1

  went_reach : t.cursor.offset ≤ length job
  went_reach =
      let g = k.going e in
      let a : length (hand s.cursor i) ≡ length job - s.cursor.offset = sym (ap length g.1) ∙ length-drop s.cursor.offset job in
      omega (arith, w.offset, w.inside, a, g.2)

  went_shut : t.phase ≡ Closed → (later : List ℕ) → Later ended later → Sheet 0 start (job ++ later) (out ++ take t.filled l')
  went_shut f later n =
      let o = t.cursor.offset in
      let left = drop w.used (hand s.cursor i) in
      let past = drop (top_offset - o) left in
      let there : drop o (job ++ later) ≡ below o left ++ (past ++ later) =
      drop-append-le o job later went_reach ∙ ap (λ x. x ++ later) (went_hand ∙ sym (take-append-drop (top_offset - o) left)) ∙ append_assoc (below o left) past later in
      let none : last_below s.last o left ≡ true → past ++ later ≡ [] = λ z.
      let y = n (k.last (and_left s.last (leb (length left) (top_offset - o)) z)) in
      let x = leb-true (length left) (top_offset - o) (and_right s.last (leb (length left) (top_offset - o)) z) in
      ap (λ q. q ++ later) (none_empty past (length-drop (top_offset - o) left ∙ (omega arith))) ∙ y in
      subst (Sheet 0 start (job ++ later)) (sym went_text)
      (begins_more (begins_longer later went_begins) w.said (subst (λ x. Sheet o (state_of t.held v' m') x w.said) (sym there) ((w.closed f).sheet (past ++ later) none)))

  went_holds : Holds job ended out t v' m' l' i
  went_holds = record {
    last = λ z. k.last (sym w.last ∙ z);
    ready = λ b c d f.
        let n = hand_long s.cursor i r.ordered r.inside in
        record { kept = w.kept; sheet = d; input = f; ordered = omega (arith, w.at, w.end, w.inside, n, r.ordered); inside = omega (arith, w.end, r.inside); waits = omega (arith, w.room, w.wrote.long) };
    stands = λ f. record {
      text = before ++ w.text;
      begins = went_begins;
      none_goes = subst (λ x. (c : Command) → parsed (below t.cursor.offset x) ≡ Whole c → refusal_of (state_of t.held v' m') c ≢ (Ok tt)) (sym went_hand) (w.closed f).none_goes;
    };
    going = λ f.
        let g = k.going e in
        let a = hand_long s.cursor i g.3 g.4 in (
          subst (Begins job t.cursor.offset (state_of t.held v' m')) (went_quiet (w.going f).0) went_begins,
          went_hand ∙ sym (hand_moved s.cursor t.cursor w.used i w.at w.end),
          went_reach,
          omega (arith, w.at, w.end, w.inside, a, g.3),
          omega (arith, w.end, g.4),
        );
    closed = λ f later n. went_shut f later n;
    starts = λ later x n q. by_phase later x n q t.phase refl;
  }
    where
      by_phase : (later x : List ℕ) → Later ended later → Sheet 0 start (job ++ later) x → (p : Phase) → t.phase ≡ p → (rest : List ℕ) × (x ≡ (out ++ take t.filled l') ++ rest)
      by_phase later x n q Going f = begun_starts (subst (Begins job t.cursor.offset (state_of t.held v' m')) (went_quiet (w.going f).0) went_begins) later x q
      by_phase later x n q Past f = begun_starts (subst (Begins job t.cursor.offset (state_of t.held v' m')) (went_quiet (w.past f).0) went_begins) later x q
      by_phase later x n q Closed f = shut_starts (went_shut f later n) q
      by_phase later x n q Lost f = absurd (w.not_lost f)

-- before a read the bytes at hand go to the front: the same are at hand
asks_going : (s : Stream) → asks_read s ≡ true → s.phase ≡ Going
unfolding asks_read goes
asks_going s e = go (not (ltb 0 s.filled)) s.phase e
  where
    go : (b : Bool) (p : Phase) → (b && goes p) ≡ true → p ≡ Going
    go true Going q = refl
    go true Closed q = absurd (true≢false (sym q))
    go true Past q = absurd (true≢false (sym q))
    go true Lost q = absurd (true≢false (sym q))
    go false p q = absurd (true≢false (sym q))

carried_inside : (c : Cursor) (i : List ℕ) → (carried_of c i).end ≤ length (hand c i ++ drop (length (hand c i)) i)
unfolding carried_of
carried_inside c i = omega (arith, length-append (hand c i) (drop (length (hand c i)) i))

tidy_holds : {job : List ℕ} {ended : Bool} {out : List ℕ} {t : Stream} {v m l i : List ℕ} → Holds job ended out t v m l i → Holds job ended out (tidy t i) v m l (tidy_input t i)
unfolding tidy tidy_input
tidy_holds {job} {ended} {out} {t} {v} {m} {l} {i} k = go (asks_read t) refl
  where
    go : (b : Bool) → asks_read t ≡ b →
        Holds job ended out (cond b (with_cursor t (carried_of t.cursor i)) t) v m l (cond b (hand t.cursor i ++ drop (length (hand t.cursor i)) i) i)
    go false e = k
    go true e =
        let g = k.going (asks_going t e) in
        record {
          last = k.last;
          ready = λ b c d f.
              let n = length-append (hand t.cursor i) (drop (length (hand t.cursor i)) i) in
              let y = length-drop (length (hand t.cursor i)) i in
              let u = hand_long t.cursor i g.3 g.4 in
              let q = k.ready b c d (omega arith) in
              record { kept = q.kept; sheet = d; input = f; ordered = omega arith; inside = carried_inside t.cursor i; waits = q.waits };
          stands = λ f. absurd (not_closed f (asks_going t e));
          going = λ _. (g.0, g.1 ∙ sym (hand_carried t.cursor i), g.2, omega arith, carried_inside t.cursor i);
          closed = k.closed;
          starts = k.starts;
        }

same_holds : {job : List ℕ} {ended : Bool} {out : List ℕ} {s s' : Stream} {v m l i v' m' l' i' : List ℕ} → s' ≡ s → v' ≡ v → m' ≡ m → l' ≡ l → i' ≡ i → Holds job ended out s v m l i → Holds job ended out s' v' m' l' i'
same_holds {job} {ended} {out} {s} {s'} {v} {m} {l} {i} {v'} {m'} {l'} {i'} a b c d e k =
    subst (λ (x : Stream). Holds job ended out x v' m' l' i') (sym a)
    (subst (λ x. Holds job ended out s x m' l' i') (sym b) (subst (λ x. Holds job ended out s v x l' i') (sym c) (subst (λ x. Holds job ended out s v m x i') (sym d) (subst (Holds job ended out s v m l) (sym e) k))))

pub dec_going : (p : Phase) → (p ≡ Going) ⊎ (p ≢ Going)
dec_going Going = inl refl
dec_going Closed = inr (λ e. zero_one (cc))
dec_going Past = inr (λ e. zero_one (cc))
dec_going Lost = inr (λ e. zero_one (cc))

works_holds : {job : List ℕ} {ended : Bool} {out : List ℕ} {s : Stream} {v m l i : List ℕ} {a : Ask} {s' : Stream} {v' m' l' i' : List ℕ} → Holds job ended out s v m l i → Works s v m l i a s' v' m' l' i' → Holds job ended out s' v' m' l' i'
works_holds {job} {ended} {out} {s} {v} {m} {l} {i} {a} {s'} {v'} {m'} {l'} {i'} k w =
    ⊎_elim
    (λ pass. let q = w.passed pass in let t = q.0 in
    let h : Holds job ended out t v' m' l' i = ⊎_elim (λ e. went_holds k (stream_ready s v m l i pass) e (q.1.goes e)) (λ n. let o = q.1.over n in same_holds o.0 o.1 o.2 o.3 refl k) (dec_going s.phase) in
    same_holds q.3 refl refl refl q.4 (tidy_holds h))
    (λ stop. let q = w.bad stop.0 stop.1 in same_holds q.1 q.2 q.3 q.4 q.5 k)
    (stop_or_pass (stream_check s v m l i))

-- ---- writes

written_holds : {job : List ℕ} {ended : Bool} {out : List ℕ} {s : Stream} {v m l i : List ℕ} → Holds job ended out s v m l i → Holds job ended (out ++ take s.filled l) (written_of s true) v m l i
unfolding written_of
written_holds {job} {ended} {out} {s} {v} {m} {l} {i} k =
    let e = sym (append-nil (out ++ take s.filled l)) in
    record {
      last = k.last;
      ready = λ b c d f. let q = k.ready b c d f in record { kept = q.kept; sheet = d; input = f; ordered = q.ordered; inside = q.inside; waits = omega arith };
      stands = λ f. let q = k.stands f in record { text = q.text; begins = q.begins; none_goes = q.none_goes };
      going = λ f. let g = k.going f in (subst (Begins job s.cursor.offset (state_of s.held v m)) e g.0, g.1, g.2, g.3, g.4);
      closed = λ f later n. subst (Sheet 0 start (job ++ later)) e (k.closed f later n);
      starts = λ later x n t. let r = k.starts later x n t in (r.0, r.1 ∙ ap (λ y. y ++ r.0) e);
    }

-- part of what waited was written
some_holds : {job : List ℕ} {ended : Bool} {out : List ℕ} {s : Stream} {v m l i : List ℕ} (j : ℕ) → j ≤ s.filled → Holds job ended out s v m l i → Holds job ended (out ++ take j l) (written_of s false) v m l i
unfolding written_of
some_holds {job} {ended} {out} {s} {v} {m} {l} {i} j h k =
    let e = sym (append-nil (out ++ take j l)) in
    let cut : take s.filled l ≡ take j l ++ drop j (take s.filled l) = sym (take-append-drop j (take s.filled l)) ∙ ap (λ y. y ++ drop j (take s.filled l)) (take-take j s.filled l h) in
    let rest = drop j (take s.filled l) in
    record {
      last = k.last;
      ready = λ b c d f. let q = k.ready b c d f in record { kept = q.kept; sheet = d; input = f; ordered = q.ordered; inside = q.inside; waits = omega arith };
      stands = λ f. absurd (zero_one (cc));
      going = λ f. absurd (zero_one (cc));
      closed = λ f. absurd (zero_one (cc));
      starts = λ later x n t. let r = k.starts later x n t in (
        rest ++ r.0,
        r.1 ∙ ap (λ y. (out ++ y) ++ r.0) cut ∙ ap (λ y. y ++ r.0) (sym (append_assoc out (take j l) rest)) ∙ append_assoc (out ++ take j l) rest r.0 ∙ ap (λ y. y ++ (rest ++ r.0)) e,
      );
    }

-- ---- reads

pub ask_read : (s : Stream) → ask_of s ≡ ask.Read → (ltb 0 s.filled ≡ false) × (s.phase ≡ Going)
unfolding ask_of phase_ask
ask_read s e = go (ltb 0 s.filled) s.phase e
  where
    go : (b : Bool) (p : Phase) → cond b ask.Write (phase_ask p) ≡ ask.Read → (b ≡ false) × (p ≡ Going)
    go true p q = absurd (zero_one (cc))
    go false Going q = (refl, refl)
    go false Closed q = absurd (zero_one (cc))
    go false Past q = absurd (zero_one (cc))
    go false Lost q = absurd (zero_one (cc))

pub nothing_waits : (s : Stream) (out l : List ℕ) → ltb 0 s.filled ≡ false → out ++ take s.filled l ≡ out ++ take 0 l
nothing_waits s out l e = let z : s.filled ≡ 0 = omega (arith, ltb-false 0 s.filled e) in ap (λ n. out ++ take n l) z

hand_read : (c : Cursor) (i part past i' : List ℕ) (n : ℕ) → c.at ≤ c.end → c.end ≤ length i → length part ≡ n → i' ≡ take c.end i ++ (part ++ past) →
    hand (record { at = c.at; end = c.end + n; offset = c.offset }) i' ≡ hand c i ++ part
unfolding hand
hand_read c i part past i' n h g e f =
    let at = c.at in
    let end = c.end in
    let le : length (take end i) ≡ end = length-take-le end i g in
    let here = take (end - at) (drop at i) in
    let lh : length here ≡ end - at = length-take-le (end - at) (drop at i) (omega (arith, length-drop at i)) in
    let moved : drop at i' ≡ here ++ (part ++ past) = ap (drop at) f ∙ drop-append-le at (take end i) (part ++ past) (omega arith) ∙ ap (λ y. y ++ (part ++ past)) (drop_take at end i) in
    let size : end + n - at ≡ length here + length part = omega arith in
    ap (λ y. take (end + n - at) y) moved ∙ ap (λ k. take k (here ++ (part ++ past))) size ∙ take-append-add here (part ++ past) (length part)
    ∙ ap (λ y. here ++ y) (take_at part past (length part) refl)

-- the end of the input is met once
still : (ended : Bool) (room : ℕ) (got : ℤ) → ended ≡ true → ended_by ended room got ≡ true
still ended zero got e = e
still ended (suc room) (pos zero) e = refl
still ended (suc room) (pos (suc k)) e = e
still ended (suc room) (negsuc k) e = e

none_ended : (ended : Bool) (room k : ℕ) → 0 < room → min k room ≡ 0 → ended_by ended room (pos k) ≡ true
none_ended ended zero k h e = absurd (omega arith)
none_ended ended (suc room) zero h e = refl
none_ended ended (suc room) (suc k) h e = absurd (omega arith)

module _ {job : List ℕ} {ended : Bool} {out : List ℕ} {s : Stream} {v m l i : List ℕ} (k : Holds job ended out s v m l i) (e : ask_of s ≡ ask.Read) (part i' : List ℕ) (long : length i' ≡ length i) where
  read_begins : Begins (job ++ part) s.cursor.offset (state_of s.held v m) (out ++ take 0 l)
  read_begins =
      let q = ask_read s e in
      subst (Begins (job ++ part) s.cursor.offset (state_of s.held v m)) (nothing_waits s out l q.0) (begins_longer part (k.going q.1).0)

  lost_holds : (room : ℕ) (got : ℤ) → Holds (job ++ part) (ended_by ended room got) out (lost_of s) v m l i'
  lost_holds room got = record {
    last = λ z. still ended room got (k.last z);
    ready = λ b c d f. let q = k.ready b c d (omega arith) in record { kept = q.kept; sheet = d; input = f; ordered = q.ordered; inside = omega (arith, q.inside); waits = omega arith };
    stands = λ f. absurd (zero_one (cc));
    going = λ f. absurd (zero_one (cc));
    closed = λ f. absurd (zero_one (cc));
    starts = λ later x n t. begun_starts read_begins later x t;
  }

  read_holds : (n : ℕ) {after : Bool} → (eqb n 0 ≡ true → after ≡ true) → (past : List ℕ) → length part ≡ n → i' ≡ take s.cursor.end i ++ (part ++ past) → n ≤ length i' - s.cursor.end →
      s.cursor.end < length i → Holds (job ++ part) after out (read_of s n) v m l i'
  read_holds n last past a b d room =
      let q = ask_read s e in
      let g = k.going q.1 in
      let o = s.cursor.offset in
      let begins : Begins (job ++ part) o (state_of s.held v m) (out ++ take s.filled l) = begins_longer part g.0 in
      record {
        last = last;
        ready = λ b c y f. let z = k.ready b c y (omega arith) in record { kept = z.kept; sheet = y; input = f; ordered = omega (arith, z.ordered); inside = omega arith; waits = z.waits };
        stands = λ f. absurd (not_closed f q.1);
        going = λ _. (
          begins,
          drop-append-le o job part g.2 ∙ ap (λ y. y ++ part) g.1 ∙ sym (hand_read s.cursor i part past i' n g.3 g.4 a b),
          omega (arith, g.2, length-append job part),
          omega (arith, g.3),
          omega arith,
        );
        closed = λ f. absurd (not_closed f q.1);
        starts = λ later x _ t. begun_starts begins later x t;
      }

-- what a read leads to: the job is lost, or so many bytes more are at hand, where the read did not fail and there was room for it
brought_cases : (s : Stream) (i : List ℕ) (got : ℤ) (P : Stream → Type 0) → P (lost_of s) → ((j : ℕ) → got ≡ pos j → s.cursor.end < length i → P (read_of s (min j (length i - s.cursor.end)))) → P (brought_of s i got)
unfolding brought_of taken_of
brought_cases s i (negsuc j) P lost read = lost
brought_cases s i (pos j) P lost read = sign (ltb j 0)
  where
    asked : s.cursor.end < length i → (b : Bool) → P (cond b (read_of s (min j (length i - s.cursor.end))) (lost_of s))
    asked h true = read j refl h
    asked h false = lost

    fits : (b : Bool) → ltb s.cursor.end (length i) ≡ b → P (cond b (cond (asks_read s && not s.last) (read_of s (min j (length i - s.cursor.end))) (lost_of s)) (lost_of s))
    fits true f = asked (ltb-true s.cursor.end (length i) f) (asks_read s && not s.last)
    fits false f = lost

    sign : (b : Bool) → P (cond b (lost_of s) (cond (ltb s.cursor.end (length i)) (cond (asks_read s && not s.last) (read_of s (min j (length i - s.cursor.end))) (lost_of s)) (lost_of s)))
    sign true = lost
    sign false = fits (ltb s.cursor.end (length i)) refl

brought_holds : {job : List ℕ} {ended : Bool} {out : List ℕ} {s : Stream} {v m l i : List ℕ} → Holds job ended out s v m l i → ask_of s ≡ ask.Read → (part i' : List ℕ) (got : ℤ) → Filled s i got part i' →
    Holds (job ++ part) (ended_by ended (length i - s.cursor.end) got) out (brought_of s i' got) v m l i'
brought_holds {job} {ended} {out} {s} {v} {m} {l} {i} k e part i' got r =
    let room = length i - s.cursor.end in
    brought_cases s i' got (λ (x : Stream). Holds (job ++ part) (ended_by ended room got) out x v m l i') (lost_holds k e part i' r.long room got)
    (λ j f h.
    let n = min j (length i' - s.cursor.end) in
    let all : length part ≡ n = r.count ∙ ap (λ x. clamp_len x (length i' - s.cursor.end)) f in
    let met : eqb n 0 ≡ true → ended_by ended room got ≡ true = λ z.
    ap (ended_by ended room) f ∙ none_ended ended room j (omega (arith, r.long)) (ap (λ x. min j (x - s.cursor.end)) (sym r.long) ∙ eqb-true n 0 z) in
    read_holds k e part i' r.long n met r.past all r.stands (clamped_most (pos j) (length i' - s.cursor.end)) (omega (arith, r.long)))

-- ---- all along

pub trace_holds : {job : List ℕ} {ended : Bool} {out : List ℕ} {s : Stream} {v m l i : List ℕ} → Trace job ended out s v m l i → Holds job ended out s v m l i
trace_holds (opens {v = v} {m} {l} {i}) = opens_holds v m l i
trace_holds (works a s' v' m' l' i' p w) = works_holds (trace_holds p) w
trace_holds (writes p) = written_holds (trace_holds p)
trace_holds (writes_some j h p) = some_holds j h (trace_holds p)
trace_holds (reads got part i' e r p) = brought_holds (trace_holds p) e part i' got r

pub ask_closed : (s : Stream) → ask_of s ≡ ask.Closed → (ltb 0 s.filled ≡ false) × (s.phase ≡ Closed)
unfolding ask_of phase_ask
ask_closed s e = go (ltb 0 s.filled) s.phase e
  where
    go : (b : Bool) (p : Phase) → cond b ask.Write (phase_ask p) ≡ ask.Closed → (b ≡ false) × (p ≡ Closed)
    go true p q = absurd (zero_one (cc))
    go false Going q = absurd (zero_one (cc))
    go false Closed q = (refl, refl)
    go false Past q = absurd (zero_one (cc))
    go false Lost q = absurd (zero_one (cc))
