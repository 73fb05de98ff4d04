-- From turns to the sheet: how each step keeps the run going.
-- Main results: turned, turn_fits, next_placed; run_start, run_whole, run_full; held_ready.
use Rattle.std.specs.Prelude.{◌≡◌, refl, true, List, [], ℕ, ◌+◌, ◌-◌, ◌^◌, ◌≤◌, ◌<◌, length, get_or, take, drop, Ok, Err}
use Rattle.std.proofs.Common.{sym, ◌∙◌, ap, subst, arith, length-take, length-drop, length-append, take_all, drop-drop, length-take-le}
use Rattle.commands.specs.Commands.{size_of, parsed}
use Rattle.commands.specs.declared.Command.{Command}
use Rattle.commands.specs.declared.Parsed.TheVariants.{Whole}
use Rattle.pieces.specs.Pieces.{Appends}
use Rattle.lines.specs.Lines.{line_length}
use Rattle.state.specs.State.{State}
use Rattle.state.specs.Refusing.{refusal_of}
use Rattle.act.specs.Acts.{block_length, marks_length, state_of, Kept, Acts, Held}
use Rattle.turns.specs.Sheets.{start}
use Rattle.standing.specs.StandingLaws.{kept_pass}
use Rattle.turns.specs.Turns.{Same, unplanned}
use Rattle.job.specs.Performs.{Performs}
use Rattle.turns.specs.declared.Turn.{Turn}
use Rattle.turns.specs.declared.Turn.TheVariants.{On}
use Rattle.putting.specs.Putting.{Put, fits, no_room, Fits, Placed, on, ended, stopped, waits, bad}
use Rattle.one_sheet.specs.Outcomes.{Closing, Outcome, outcome, on_count, end_count, stop_count, never_waits, never_bad}
use Rattle.one_sheet.specs.Begins.{Begins, nothing_yet, one_more, begins_more, held_start}
use Rattle.sheet.specs.Running.{Follows, goes, closes, Cut, Runs, Running, written}
use Rattle.putting.specs.declared.Phase.{Phase}
use Rattle.putting.specs.declared.Phase.TheVariants as phases
use Rattle.putting.specs.PutLaws.{else_full}

zero_one : ◌≡◌ {A = ℕ} 0 1 → ⊥
zero_one e = omega arith

kept_same : {h : Held} {v m : List ℕ} {h' : Held} {v' m' : List ℕ} → Kept h v m → Same h v m h' v' m' → Kept h' v' m'
kept_same k s = rw (s.held, s.block, s.marks) k

-- ---- one step of the run

module _ {job lent : List ℕ} {h : Held} {v m l : List ℕ} {at to : ℕ} {sheet : List ℕ} {phase : Phase}
    (r : Running job lent h v m l at to sheet phase) (zero : phase ≡ phases.Going) where
  part_is : take (length job - at) (drop at job) ≡ drop at job
  part_is = take_all (length job - at) (drop at job) (omega (arith, length-drop at job))

  pub turned : {turn : Turn} {h' : Held} {v' m' l' : List ℕ} → Performs h v m l (take (length job - at) (drop at job)) true at turn h' v' m' l' →
      Outcome h v m (drop at job) at turn h' v' m' l'
  turned {turn} {h'} {v'} {m'} {l'} p =
      subst (λ b. Outcome h v m b at turn h' v' m' l') part_is (outcome (p.passed (kept_pass h v m l r.kept r.line_long)))

  pub turn_fits : {turn : Turn} {h' : Held} {v' m' l' : List ℕ} → length job < 2 ^ 64 → Outcome h v m (drop at job) at turn h' v' m' l' → Fits turn at (length l')
  turn_fits big o = record {
    on = λ used count e. let w = on_count used count e o in (w.0, omega (arith, w.2, length-drop at job, r.inside));
    ended = λ count e. (end_count count e o).0;
    stopped = λ x count e. (stop_count x count e o).0;
  }

  -- the sheet after the line: within the lent one, and past it as it was lent
  after : {said sheet' : List ℕ} {to' : ℕ} → Appends sheet to said sheet' to' → (to' ≤ length sheet') × (length sheet' ≡ length lent) × (drop to' sheet' ≡ drop to' lent)
  after {said} {sheet'} {to'} a = (
    omega (arith, length-take to' sheet', ap length a.text_stands ∙ length-append (take to sheet) said, a.past, length-take-le to sheet r.room),
    a.long ∙ r.long,
    a.rest ∙ ap (λ n. drop n sheet) a.past ∙ sym (drop-drop (length said) to sheet) ∙ ap (drop (length said)) r.rest ∙ drop-drop (length said) to lent
        ∙ ap (λ n. drop n lent) (sym a.past),
  )

  -- no room for the line
  cut : {sheet' : List ℕ} {to' : ℕ} (l' : List ℕ) (count : ℕ) → to' ≡ to → sheet' ≡ sheet → length sheet < to + count → count ≤ length l' →
      Follows at (state_of h v m) (drop at job) (take count l') → Cut job (length lent) (take to' sheet')
  cut {sheet'} {to'} l' count e f g fit follows =
      rw (e, f)
      (record {
        offset = at;
        state = state_of h v m;
        begins = r.going zero;
        next = take count l';
        follows = follows;
        no_room = omega (arith, length-take-le count l' fit, length-take-le to sheet r.room, r.long);
      })

  -- a turn that goes on, its line put
  next_on : {turn : Turn} {h' g : Held} {v' m' l' sheet' : List ℕ} (used count : ℕ) {x to' : ℕ} {phase' : Phase} → turn ≡ On used count → Outcome h v m (drop at job) at turn h' v' m' l' →
      length l' ≡ length l → g ≡ h' → x ≡ at + used → Put l' count sheet to phases.Going sheet' to' phase' →
      Running job lent g v' m' l' x to' sheet' phase' × (phase' ≡ phases.Going → at < x)
  next_on {turn} {h'} {g} {v'} {m'} {l'} {sheet'} used count {x} {to'} {phase'} e o long same-held step put = go put
    where
      w : (count ≤ length l') × (0 < used) × (used ≤ length (drop at job))
          × ((c : Command) × (parsed (drop at job) ≡ Whole c) × (refusal_of (state_of h v m) c ≡ Ok tt) × (used ≡ size_of (get_or (drop at job) 0 0)) × Acts c h v m (take count l') h' v' m')
      w = on_count used count e o

      inside : x ≤ length job
      inside = omega (arith, w.2, length-drop at job, r.inside)

      kept : Kept g v' m'
      kept = rw same-held w.3.4.kept

      further : at < x
      further = omega (arith, w.1)

      go : Put l' count sheet to phases.Going sheet' to' phase' → Running job lent g v' m' l' x to' sheet' phase' × (phase' ≡ phases.Going → at < x)
      go (fits p a) = (
        record {
          kept = kept;
          line_long = long ∙ r.line_long;
          inside = inside;
          room = (after a).0;
          long = (after a).1;
          rest = (after a).2;
          going = λ _.
              let size : x ≡ at + size_of (get_or (drop at job) 0 0) = step ∙ ap (λ y. at + y) w.3.3 in
              rw (size, a.text_stands, same-held) (one_more (r.going zero) w.3.0 (state_of h' v' m') (take count l') w.3.1 w.3.2 w.3.4.means);
          closed = λ q. absurd (zero_one (cc));
          full = λ q. absurd (zero_one (cc));
        },
        λ _. further,
      )
      go (no_room p e1 e2 short) = (
        record {
          kept = kept;
          line_long = long ∙ r.line_long;
          inside = inside;
          room = rw (e1, e2) r.room;
          long = rw e2 r.long;
          rest = rw (e1, e2) r.rest;
          going = λ q. absurd (zero_one (cc));
          closed = λ q. absurd (zero_one (cc));
          full = λ _. cut l' count e1 e2 short w.0 (goes w.3.0 (state_of h' v' m') w.3.1 w.3.2 w.3.4.means);
        },
        λ _. further,
      )

  -- a turn that closes the sheet, its line put
  next_close : {h' g : Held} {v' m' l' sheet' : List ℕ} (count : ℕ) {x to' : ℕ} {phase' : Phase} → count ≤ length l' → Closing at (state_of h v m) (drop at job) (take count l') →
      Same h v m h' v' m' → length l' ≡ length l → g ≡ h' → x ≡ at → Put l' count sheet to phases.Closed sheet' to' phase' →
      Running job lent g v' m' l' x to' sheet' phase' × (phase' ≡ phases.Going → at < x)
  next_close {h'} {g} {v'} {m'} {l'} {sheet'} count {x} {to'} {phase'} fit s y long same-held step put = go put
    where
      kept : Kept g v' m'
      kept = rw same-held (kept_same r.kept y)

      go : Put l' count sheet to phases.Closed sheet' to' phase' → Running job lent g v' m' l' x to' sheet' phase' × (phase' ≡ phases.Going → at < x)
      go (fits p a) = (
        record {
          kept = kept;
          line_long = long ∙ r.line_long;
          inside = omega (arith, r.inside);
          room = (after a).0;
          long = (after a).1;
          rest = (after a).2;
          going = λ q. absurd (zero_one (cc));
          closed = λ _. rw a.text_stands (begins_more (r.going zero) (take count l') s.sheet);
          full = λ q. absurd (zero_one (cc));
        },
        λ q. absurd (zero_one (cc)),
      )
      go (no_room p e1 e2 short) = (
        record {
          kept = kept;
          line_long = long ∙ r.line_long;
          inside = omega (arith, r.inside);
          room = rw (e1, e2) r.room;
          long = rw e2 r.long;
          rest = rw (e1, e2) r.rest;
          going = λ q. absurd (zero_one (cc));
          closed = λ q. absurd (zero_one (cc));
          full = λ _. cut l' count e1 e2 short fit (closes s.none_goes s.sheet);
        },
        λ q. absurd (zero_one (cc)),
      )

  -- the line of any turn put
  pub next_placed : {turn : Turn} {h' g : Held} {v' m' l' sheet' : List ℕ} {x to' : ℕ} {phase' : Phase} → Outcome h v m (drop at job) at turn h' v' m' l' → length l' ≡ length l → g ≡ h' →
      Placed turn at l' sheet to sheet' x to' phase' → Running job lent g v' m' l' x to' sheet' phase' × (phase' ≡ phases.Going → at < x)
  next_placed o long same-held (on used count e a p) = next_on used count e o long same-held a p
  next_placed o long same-held (ended count e a p) = let q = end_count count e o in next_close count q.0 q.1 q.2 long same-held a p
  next_placed o long same-held (stopped x count e a p) = let q = stop_count x count e o in next_close count q.0 q.1 q.2 long same-held a p
  next_placed o long same-held (waits e a b d f) = absurd (never_waits e o)
  next_placed o long same-held (bad y e a b d f) = absurd (never_bad y e o)

-- ---- the loop

pub run_start : (h : Held) (v m l job sheet : List ℕ) → Kept h v m → length l ≡ line_length → state_of h v m ≡ start → Running job sheet h v m l 0 0 sheet phases.Going
run_start h v m l job sheet k e s = record {
  kept = k;
  line_long = e;
  inside = omega arith;
  room = omega arith;
  long = refl;
  rest = refl;
  going = λ _. subst (λ (x : State). Begins job 0 x []) (sym s) nothing_yet;
  closed = λ q. absurd (zero_one (cc));
  full = λ q. absurd (zero_one (cc));
}

module _ {job lent : List ℕ} {h : Held} {v m l : List ℕ} {at to : ℕ} {sheet : List ℕ} {phase : Phase}
    (r : Running job lent h v m l at to sheet phase) where
  pub run_whole : phase ≡ phases.Closed → Runs job lent (Ok to) sheet
  run_whole e = record {
    whole = λ k q. let f : to ≡ k = ap written q in rw (sym f) (r.closed e);
    full = λ f q. absurd (zero_one (cc));
    within = omega (arith, r.room, r.long);
    long = r.long;
    rest = r.rest;
  }

  pub run_full : (phase ≡ phases.Going → ⊥) → (phase ≡ phases.Closed → ⊥) → Runs job lent (Err (record { written = to })) sheet
  run_full a b = record {
    whole = λ k q. absurd (zero_one (cc));
    full = λ f q. let e : to ≡ f.written = ap written q in rw (sym e) (r.full (else_full phase a b));
    within = omega (arith, r.room, r.long);
    long = r.long;
    rest = r.rest;
  }

-- ---- the start

pub held_ready : (h : Held) (v m l : List ℕ) → h ≡ unplanned → length v ≡ block_length → length m ≡ marks_length → length l ≡ line_length →
    Kept h v m × (length l ≡ line_length) × (state_of h v m ≡ start)
held_ready h v m l e a b d = rw e (
  record { good = λ q. absurd (zero_one (cc)); spare = λ q. absurd (zero_one (cc)); block_long = a; marks_long = b },
  d,
  held_start v m,
)
