-- What a program that does what it is asked has written is the sheet of what it has read; and every call goes on.
-- Main results: trace_sheet, trace_begins, trace_stands, trace_passes; answer_asked, always_room, always_forward, read_ends, full_lost; works_further; ask_not_eleven.
use Rattle.std.specs.Prelude.{◌≡◌, ◌≢◌, ◌⊎◌, Bool, true, false, cond, List, [], ◌++◌, ℕ, ◌-◌, ◌≤◌, ◌<◌, min, ltb, ℤ, pos, get_or, take, Ok}
use Rattle.std.proofs.Math.Path.{refl, ap, subst}
use Rattle.std.proofs.Common.{sym, ◌∙◌, inl, inr, append_assoc, append-nil, arith}
use Rattle.std.proofs.Math.Logic.{⊎_elim}
use Rattle.std.specs.Int.Signed.{lt_z}
use borrow.Author.Tests.{ltb-true, ltb-false, lt-ltb, le-ltb}
use Rattle.std.proofs.Math.ListN.{length, drop, length-drop, length-append}
use Rattle.refusals.proofs.RefusalLaws.{not_eleven, stop_or_pass}
use Rattle.refusals.specs.declared.Refusal.{Refusal}
use Rattle.commands.specs.Commands.{longest}
use Rattle.commands.specs.CommandLaws.{size_most}
use Rattle.lines.specs.Lines.{line_length}
use Rattle.act.specs.Acts.{block_length, marks_length, Held}
use Rattle.turns.specs.Sheets.{Sheet, start}
use Rattle.one_sheet.specs.ParsedLaws.{zero_one, nothing_empty, short_long, whole_size}
use Rattle.one_sheet.specs.Performed.{Performed, none, first}
use Rattle.one_sheet.proofs.PerformedLaws.{performed_inside, performed_further}
use Rattle.reading.specs.Cursors.{hand, carried_of}
use Rattle.stream.specs.Course.{Waits}
use Rattle.stream.specs.Streams.{stream_check, ask_of, ask_number, phase_ask, goes, asks_read, with_cursor, tidy, tidy_input, lost_of, taken_of, brought_of}
use Rattle.stream.specs.Works.{Went, Works, Advances}
use Rattle.stream.proofs.WorksLaws.{Ready, stream_ready, ready_passes}
use Rattle.stream.specs.Trace.{Trace, Later, Stands, Roomy}
use Rattle.stream.proofs.TraceLaws.{trace_holds, ask_read, ask_closed, nothing_waits, hand_moved, dec_going}
use Rattle.stream.specs.declared.Stream.{Stream}
use Rattle.stream.specs.declared.Phase.{Phase}
use Rattle.stream.specs.declared.Phase.TheVariants.{Going, Closed, Past, Lost}
use Rattle.stream.specs.declared.Ask.{Ask}
use Rattle.stream.specs.declared.Ask.TheVariants as ask

-- where nothing more is wanted and the job is closed, what was written is the sheet of the job, whatever parts it was read in: of what was read where the input has ended, and otherwise (a refusal) with whatever comes later
pub trace_sheet : {job : List ℕ} {ended : Bool} {out : List ℕ} {s : Stream} {v m l i : List ℕ} → Trace job ended out s v m l i → ask_of s ≡ ask.Closed → (later : List ℕ) → Later ended later → Sheet 0 start (job ++ later) out
trace_sheet {job} {ended} {out} {s} {l = l} p e later n =
    let q = ask_closed s e in
    subst (Sheet 0 start (job ++ later)) (nothing_waits s out l q.0 ∙ append-nil out) ((trace_holds p).closed q.1 later n)

-- at any time, whatever comes later, what was written is the first part of the job's sheet
pub trace_begins : {job : List ℕ} {ended : Bool} {out : List ℕ} {s : Stream} {v m l i : List ℕ} → Trace job ended out s v m l i → (later x : List ℕ) → Later ended later → Sheet 0 start (job ++ later) x → (rest : List ℕ) × (x ≡ out ++ rest)
trace_begins {out = out} {s} {l = l} p later x n t =
    let r = (trace_holds p).starts later x n t in
    (take s.filled l ++ r.0, r.1 ∙ append_assoc out (take s.filled l) r.0)

-- where the job is closed, the state is the one in which no command went on: earlier commands stand, and a refused one changed nothing
pub trace_stands : {job : List ℕ} {ended : Bool} {out : List ℕ} {s : Stream} {v m l i : List ℕ} → Trace job ended out s v m l i → ask_of s ≡ ask.Closed → Stands job s v m
trace_stands {s = s} p e = (trace_holds p).stands (ask_closed s e).1

-- and where the buffers have their lengths no call is refused
pub trace_passes : {job : List ℕ} {ended : Bool} {out : List ℕ} {s : Stream} {v m l i : List ℕ} → Trace job ended out s v m l i → length v ≡ block_length → length m ≡ marks_length →
    line_length ≤ length l → longest ≤ length i → stream_check s v m l i ≡ Ok tt
trace_passes {s = s} {v} {m} {l} {i} p a b c d = ready_passes s v m l i ((trace_holds p).ready a b c d)

-- ---- every call goes on

waits_few : (b : List ℕ) → Waits b → length b < longest
waits_few b w =
    ⊎_elim
    (λ e. let f = ap length (nothing_empty b e) in omega arith)
    (λ e. let f = short_long b e in omega (arith, size_most (get_or b 0 0)))
    w

asks_read_lem : (s : Stream) → ltb 0 s.filled ≡ false → s.phase ≡ Going → asks_read s ≡ true
unfolding asks_read goes
asks_read_lem s e f = rw (e, f)

tidy_asks : (t : Stream) (i : List ℕ) → ask_of (tidy t i) ≡ ask_of t
unfolding tidy ask_of
tidy_asks t i = go (asks_read t)
  where
    go : (b : Bool) → ask_of (cond b (with_cursor t (carried_of t.cursor i)) t) ≡ ask_of t
    go true = refl
    go false = refl

tidy_is : (t : Stream) (i : List ℕ) → asks_read t ≡ true → (tidy t i ≡ with_cursor t (carried_of t.cursor i)) × (tidy_input t i ≡ hand t.cursor i ++ drop (length (hand t.cursor i)) i)
unfolding tidy tidy_input
tidy_is t i e = (rw e, rw e)

module _ {s : Stream} {v m l i : List ℕ} {a : Ask} {s' : Stream} {v' m' l' i' : List ℕ} (w : Works s v m l i a s' v' m' l' i') where
  -- the call passed: what was wanted then
  passed : (x : Ask) → a ≡ x → ((y : Refusal) → x ≡ ask.Bad y → ⊥) → Ready s v m l i × ((t : Stream) × Advances s v m l i t v' m' l' × (ask_of t ≡ x) × (s' ≡ tidy t i) × (i' ≡ tidy_input t i))
  passed x e n =
      ⊎_elim
      (λ pass. let q = w.passed pass in (stream_ready s v m l i pass, (q.0, q.1, sym q.2 ∙ e, q.3, q.4)))
      (λ stop. let q = w.bad stop.0 stop.1 in absurd (n stop.0 (sym e ∙ q.0)))
      (stop_or_pass (stream_check s v m l i))

  -- the answer is what the stream that is handed back wants
  pub answer_asked : ((y : Refusal) → a ≡ ask.Bad y → ⊥) → ask_of s' ≡ a
  unfolding ask_of tidy
  answer_asked n =
      let q = passed a refl n in
      ap ask_of q.1.3 ∙ tidy_asks q.1.0 i ∙ q.1.2

  pub always_room : a ≡ ask.Read → Roomy s' i'
  unfolding carried_of
  always_room e =
      let q = passed ask.Read e (λ y f. zero_one (cc)) in
      let r = q.0 in
      let t = q.1.0 in
      let z = ask_read t q.1.2 in
      let g : s.phase ≡ Going = ⊎_elim (λ y. y) (λ y. ap (λ (x : Stream). x.phase) (sym (q.1.1.over y).0) ∙ z.1) (dec_going s.phase) in
      let k = q.1.1.goes g in
      let o : t.filled ≡ 0 = omega (arith, ltb-false 0 t.filled z.0) in
      let u = tidy_is t i (asks_read_lem t z.0 z.1) in
      let c = hand_moved s.cursor t.cursor k.used i k.at k.end in
      let f : (s.last ≡ false) × Waits (drop k.used (hand s.cursor i)) = ⊎_elim (λ x. (x.0, x.2)) (λ x. absurd (omega (arith, r.sheet))) (k.going z.1).1 in
      let few : length (hand t.cursor i) < longest = subst (λ x. length x < longest) (sym c) (waits_few (drop k.used (hand s.cursor i)) f.1) in
      let long : length (hand t.cursor i ++ drop (length (hand t.cursor i)) i) ≡ length i =
      length-append (hand t.cursor i) (drop (length (hand t.cursor i)) i) ∙ (let d = length-drop (length (hand t.cursor i)) i in omega (arith, r.input)) in
      subst (λ (x : Stream). Roomy x i') (sym (q.1.3 ∙ u.0)) (subst (λ x. Roomy (with_cursor t (carried_of t.cursor i)) x) (sym (q.1.4 ∙ u.1)) (record {
        written = o;
        more = k.last ∙ f.0;
        front = refl;
        few = few;
        room = omega (arith, r.input);
      }))

-- text is written by commands only
performed_some : {b : List ℕ} {h : Held} {v m : List ℕ} {at : ℕ} {text : List ℕ} {h' : Held} {v' m' : List ℕ} {at' : ℕ} → Performed b h v m at text h' v' m' at' → at ≤ length b →
    0 < length text → at < at'
performed_some none l h = absurd (omega arith)
performed_some {b} {at = at} (first c t u k w n p z a f) l h =
    let y = whole_size (drop at b) c p in
    let d = length-drop at b in
    let r = performed_inside f (omega arith) in
    omega (arith, r.0)

asks_write : (t : Stream) → ask_of t ≡ ask.Write → 0 < t.filled
unfolding ask_of phase_ask
asks_write t e = go (ltb 0 t.filled) t.phase refl e
  where
    go : (b : Bool) (p : Phase) → ltb 0 t.filled ≡ b → cond b ask.Write (phase_ask p) ≡ ask.Write → 0 < t.filled
    go true p f q = ltb-true 0 t.filled f
    go false Going f q = absurd (zero_one (cc))
    go false Closed f q = absurd (zero_one (cc))
    go false Past f q = absurd (zero_one (cc))
    go false Lost f q = absurd (zero_one (cc))

tidy_other : (t : Stream) (i : List ℕ) → 0 < t.filled → tidy t i ≡ t
unfolding tidy asks_read
tidy_other t i h = rw (lt-ltb 0 t.filled h)

module _ {s : Stream} {v m l i : List ℕ} {t : Stream} {v' m' l' : List ℕ} (k : Went s v m l i t v' m' l') (o : s.filled ≡ 0) (some : 0 < t.filled) where
  forward : k.said ≡ [] → s.cursor.offset < t.cursor.offset
  forward e =
      let a : length (k.text ++ k.said) ≡ length k.text = ap (λ x. length (k.text ++ x)) e ∙ ap length (append-nil k.text) in
      let f = performed_some k.performed (omega arith) (omega (arith, k.wrote.past)) in
      omega (arith, k.offset)

  forward_by : (p : Phase) → t.phase ≡ p → (t.phase ≡ Closed) ⊎ (s.cursor.offset < t.cursor.offset)
  forward_by Going f = inr (forward (k.going f).0)
  forward_by Past f = inr (forward (k.past f).0)
  forward_by Closed f = inl f
  forward_by Lost f = absurd (k.not_lost f)

-- with nothing waiting before it, a call after which lines wait has performed a command, or closed the job
pub always_forward : {s : Stream} {v m l i : List ℕ} {s' : Stream} {v' m' l' i' : List ℕ} → Works s v m l i ask.Write s' v' m' l' i' → s.filled ≡ 0 →
    (s'.phase ≡ Closed) ⊎ (s.cursor.offset < s'.cursor.offset)
always_forward {s} {i = i} {s'} w o =
    let q = passed w ask.Write refl (λ y f. zero_one (cc)) in
    let t = q.1.0 in
    let some : 0 < t.filled = asks_write t q.1.2 in
    let same : s' ≡ t = q.1.3 ∙ tidy_other t i some in
    let g : s.phase ≡ Going = ⊎_elim (λ y. y) (λ y. absurd (let z = ap (λ (x : Stream). x.filled) (q.1.1.over y).0 in omega arith)) (dec_going s.phase) in
    subst (λ (x : Stream). (x.phase ≡ Closed) ⊎ (s.cursor.offset < x.cursor.offset)) (sym same) (forward_by (q.1.1.goes g) o some t.phase refl)

-- a read of 0 bytes that was asked for and had room ends the input
pub read_ends : (s : Stream) (i : List ℕ) → ask_of s ≡ ask.Read → s.last ≡ false → s.cursor.end < length i → (brought_of s i (pos 0)).last ≡ true
unfolding brought_of taken_of
read_ends s i e f h =
    let q = ask_read s e in
    let r = asks_read_lem s q.0 q.1 in
    let z : min 0 (length i - s.cursor.end) ≡ 0 = omega arith in
    rw (lt-ltb s.cursor.end (length i) h, r, f, z)

-- and one that had no room ends nothing: the job is lost
pub full_lost : (s : Stream) (i : List ℕ) (got : ℤ) → length i ≤ s.cursor.end → brought_of s i got ≡ lost_of s
unfolding brought_of
full_lost s i got h = rw (le-ltb s.cursor.end (length i) h) (same (lt_z got (pos 0)))
  where
    same : (b : Bool) → cond b (lost_of s) (lost_of s) ≡ lost_of s
    same true = refl
    same false = refl

-- Where the sheet has no room for the longest line, which command work stops at is its choice. What every choice has in common: the one that uses more bytes
-- has performed the commands of the other, and goes on from its plan, block and marks.
pub works_further : {s : Stream} {v m l i : List ℕ} {t u : Stream} {v' m' l' w n k : List ℕ} → stream_check s v m l i ≡ Ok tt → (a : Went s v m l i t v' m' l') (b : Went s v m l i u w n k) → a.used ≤ b.used →
    (rest : List ℕ) × (b.text ≡ a.text ++ rest) × Performed (hand s.cursor i) t.held v' m' a.used rest u.held w n b.used
works_further {s} {v} {m} {l} {i} pass a b h = performed_further (stream_ready s v m l i pass).kept (omega arith) h a.performed b.performed

-- what is asked for has no number that is struck from the table (document 02, N4)
pub ask_not_eleven : (a : Ask) → ask_number a ≢ 11
ask_not_eleven ask.Read e = omega (arith, e)
ask_not_eleven ask.Write e = omega (arith, e)
ask_not_eleven ask.Closed e = omega (arith, e)
ask_not_eleven ask.Past e = omega (arith, e)
ask_not_eleven ask.Lost e = omega (arith, e)
ask_not_eleven (ask.Bad x) e = not_eleven x e
