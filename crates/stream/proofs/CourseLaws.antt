-- Courses put together, and the course of one turn.
-- Main results: course_none, course_full, course_quick, course_both, window_appends, course_turn.
use Rattle.std.specs.Prelude.{Some, ◌⊎◌, is_some, ◌≡◌, refl, ◌≢◌, Bool, true, false, List, [], ◌++◌, ℕ, ◌+◌, ◌-◌, ◌*◌, ◌^◌, ◌≤◌, ◌<◌, Ok}
use Rattle.plan.specs.declared.Plan.{Plan}
use Rattle.std.proofs.Common.{sym, ◌∙◌, ap, subst, inl, inr, append_assoc, append-nil, arith}
use Rattle.std.proofs.Math.Logic.{by_cases}
use lib.ListN.{length, get_or, take, drop, length-drop, length-append}
use lib.Seq.{take_at, take_all, drop_at, drop-drop, length-take-le}
use Rattle.refusals.proofs.RefusalLaws.{dec_pass}
use Rattle.refusals.specs.declared.Refusal.{Refusal}
use Rattle.pieces.specs.Pieces.{Appends}
use Rattle.pieces.specs.PiecesLaws.{appends_none, appends_both}
use Rattle.commands.specs.Commands.{size_of, parsed, parsed_check}
use Rattle.commands.specs.declared.Command.{Command}
use Rattle.commands.specs.declared.Parsed.{Parsed}
use Rattle.commands.specs.declared.Parsed.TheVariants.{Whole, Unknown, Short, Nothing}
use Rattle.lines.specs.Lines.{line, end_word, line_length, Wrote}
use Rattle.state.specs.State.{State}
use Rattle.state.specs.Refusing.{refusal_of}
use Rattle.act.specs.Acts.{state_of, Kept, Held, held_plan}
use Rattle.turns.specs.Sheets as sheets
use Rattle.turns.specs.Sheets.{Sheet, refused_line}
use Rattle.turns.specs.Turns.{turn_used, turn_wrote, Same, Goes, Turns}
use Rattle.turns.specs.declared.Turn.{Turn}
use Rattle.turns.specs.declared.Turn.TheVariants.{Wait, End, Stop, On}
use Rattle.one_sheet.specs.ParsedLaws.{zero_one, nothing_empty, whole_size, parsed_prefix}
use Rattle.one_sheet.specs.Performed.{none}
use Rattle.one_sheet.proofs.PerformedLaws.{performed_one, performed_both}
use Rattle.quick.specs.Quick.{Quick}
use Rattle.quick.specs.QuickLaws.{appends_room}
use Rattle.stream.specs.Course.{halt_of, Waits, Closes, Course}
use Rattle.stream.specs.declared.Halt.{Halt}
use Rattle.stream.specs.declared.Halt.TheVariants as halts

-- ---- none, and several

module _ (b : List ℕ) (last : Bool) (o : ℕ) (h : Held) (v m : List ℕ) (at : ℕ) (l : List ℕ) (to : ℕ) (k : Kept h v m) (i : at ≤ length b) (r : to ≤ length l) where
  pub course_none : Course b last o h v m at l to h v m at l to halts.On
  course_none = record {
    text = [];
    said = [];
    performed = none;
    wrote = appends_none l to;
    kept = k;
    forwards = omega arith;
    inside = i;
    room = r;
    input = λ e. absurd (zero_one (cc));
    full = λ e. absurd (zero_one (cc));
    closed = λ e. absurd (zero_one (cc));
    quiet = λ _. refl;
  }

  pub course_full : length l - to < line_length → Course b last o h v m at l to h v m at l to halts.Room
  course_full f = record {
    text = [];
    said = [];
    performed = none;
    wrote = appends_none l to;
    kept = k;
    forwards = omega arith;
    inside = i;
    room = r;
    input = λ e. absurd (zero_one (cc));
    full = λ e. omega arith;
    closed = λ e. absurd (zero_one (cc));
    quiet = λ _. refl;
  }

pub course_quick : {b : List ℕ} {h : Held} {v m : List ℕ} {at : ℕ} {l : List ℕ} {to : ℕ} {v' m' : List ℕ} {at' : ℕ} {l' : List ℕ} {to' : ℕ} (last : Bool) (o : ℕ) →
    Kept h v m → is_some h ≡ true → Quick ((held_plan h).n * (held_plan h).t) b v m at l to v' m' at' l' to' → Course b last o h v m at l to h v' m' at' l' to' halts.On
course_quick {l = l} {to} {l' = l'} {to'} last o k p q =
    let w = q.went _ (record { planned = p; of = refl; kept = k }) in
    record {
      text = q.text;
      said = [];
      performed = w.0;
      wrote = subst (λ t. Appends l to t l' to') (sym (append-nil q.text)) q.wrote;
      kept = w.1.kept;
      forwards = q.forwards;
      inside = q.inside;
      room = q.room;
      input = λ e. absurd (zero_one (cc));
      full = λ e. absurd (zero_one (cc));
      closed = λ e. absurd (zero_one (cc));
      quiet = λ _. refl;
    }

-- the same by the plan that is held
pub course_planned : {b : List ℕ} (last : Bool) (o : ℕ) {held : Held} {plan : Plan} {v m : List ℕ} {at : ℕ} {l : List ℕ} {to : ℕ} {v' m' : List ℕ} {at' : ℕ} {l' : List ℕ} {to' : ℕ} →
    held ≡ Some plan → Kept held v m → Quick (plan.n * plan.t) b v m at l to v' m' at' l' to' → Course b last o held v m at l to held v' m' at' l' to' halts.On
course_planned {b} last o {held} {plan} {v} {m} {at} {l} {to} {v'} {m'} {at'} {l'} {to'} e k q =
    subst (λ (h : Held). Course b last o h v m at l to h v' m' at' l' to' halts.On) (sym e) (course_quick last o (subst (λ (h : Held). Kept h v m) e k) refl q)

pub course_both : {b : List ℕ} {last : Bool} {o : ℕ} {h : Held} {v m : List ℕ} {at : ℕ} {l : List ℕ} {to : ℕ} {h' : Held} {v' m' : List ℕ} {at' : ℕ} {l' : List ℕ} {to' : ℕ} {halt : Halt}
    {h'' : Held} {v'' m'' : List ℕ} {at'' : ℕ} {l'' : List ℕ} {to'' : ℕ} {halt' : Halt} → halt ≡ halts.On →
    Course b last o h v m at l to h' v' m' at' l' to' halt → Course b last o h' v' m' at' l' to' h'' v'' m'' at'' l'' to'' halt' → Course b last o h v m at l to h'' v'' m'' at'' l'' to'' halt'
course_both {l = l} {to} {l' = l'} {to'} {l'' = l''} {to''} z x y =
    let q : x.said ≡ [] = x.quiet (λ e. zero_one (cc)) in
    let w : Appends l to x.text l' to' = subst (λ t. Appends l to t l' to') (ap (λ s. x.text ++ s) q ∙ append-nil x.text) x.wrote in
    let long = x.wrote.long in
    record {
      text = x.text ++ y.text;
      said = y.said;
      performed = performed_both x.performed y.performed;
      wrote = subst (λ t. Appends l to t l'' to'') (sym (append_assoc x.text y.text y.said)) (appends_both w y.wrote);
      kept = y.kept;
      forwards = omega (arith, x.forwards, y.forwards);
      inside = y.inside;
      room = omega (arith, y.room);
      input = y.input;
      full = λ e. omega (arith, y.full e);
      closed = y.closed;
      quiet = y.quiet;
    }

-- ---- a line in a window of the sheet

pub window_appends : (l : List ℕ) (to most : ℕ) {text l' : List ℕ} {count : ℕ} → most ≡ to + line_length → most ≤ length l → Wrote (take (most - to) (drop to l)) text l' count →
    Appends l to text (take to l ++ (l' ++ drop (most - to) (drop to l))) (to + count)
window_appends l to most {text} {l'} {count} e fit w =
    let k : most - to ≡ line_length = omega arith in
    let a : length (take to l) ≡ to = length-take-le to l (omega arith) in
    let r : length (take (most - to) (drop to l)) ≡ most - to = length-take-le (most - to) (drop to l) (omega (arith, length-drop to l)) in
    let b : length l' ≡ most - to = w.long ∙ r in
    let c : length (take count l') ≡ count = length-take-le count l' w.within in
    let past = drop (most - to) (drop to l) in
    let split : l' ≡ text ++ drop count (take (most - to) (drop to l)) = sym (lib.ListN.take-append-drop count l') ∙ ap (λ x. x ++ drop count l') w.text_stands ∙ ap (λ x. text ++ x) w.rest in
    let n : length text ≡ count = sym (ap length w.text_stands) ∙ c in
    let front : length (take to l ++ text) ≡ to + count = length-append (take to l) text ∙ (omega (arith, a, n)) in
    let behind = drop count (take (most - to) (drop to l)) ++ past in
    let whole : take to l ++ (l' ++ past) ≡ (take to l ++ text) ++ behind =
    ap (λ x. take to l ++ (x ++ past)) split ∙ ap (λ x. take to l ++ x) (append_assoc text (drop count (take (most - to) (drop to l))) past) ∙ sym (append_assoc (take to l) text behind) in
    let rest : behind ≡ drop (to + count) l =
    ap (λ x. drop count (take (most - to) (drop to l)) ++ x) refl
    ∙ sym (lib.Seq.drop-append-le count (take (most - to) (drop to l)) past (omega (arith, r, b, w.within)))
    ∙ ap (drop count) (lib.ListN.take-append-drop (most - to) (drop to l)) ∙ drop-drop count to l in
    record {
      text_stands = ap (take (to + count)) whole ∙ take_at (take to l ++ text) behind (to + count) front;
      past = ap (λ x. to + x) (sym n);
      long = length-append (take to l) (l' ++ past) ∙ (let q = length-append l' past in let y : length past ≡ length l - to - (most - to) = lib.ListN.length-drop (most - to) (drop to l) ∙ ap (λ x. x - (most - to)) (length-drop to l) in omega (arith, a, b, q, y));
      rest = ap (drop (to + count)) whole ∙ drop_at (take to l ++ text) behind (to + count) front ∙ rest;
    }

-- ---- one turn

-- the lines that close: whatever comes later
closes_unknown : {last : Bool} {o : ℕ} {s : State} {b : List ℕ} → parsed b ≡ Unknown → Closes last o s b (refused_line (parsed_check Unknown) o)
closes_unknown {b = b} e = record { none_goes = λ c f. absurd (zero_one (cc)); sheet = λ later _. sheets.unknown (parsed_prefix b later (λ q. zero_one (cc)) (λ q. zero_one (cc)) ∙ e) }

closes_refused : {last : Bool} {o : ℕ} {s : State} {b : List ℕ} (c : Command) → parsed b ≡ Whole c → refusal_of s c ≢ (Ok tt) → Closes last o s b (refused_line (refusal_of s c) o)
closes_refused {s = s} {b} c e n = record { none_goes = λ d f. let q : c ≡ d = cc in subst (λ (x : Command). refusal_of s x ≢ (Ok tt)) q n; sheet = λ later _. sheets.refused c (parsed_prefix b later (λ q. zero_one (cc)) (λ q. zero_one (cc)) ∙ e) n }

closes_short : {last : Bool} {o : ℕ} {s : State} {b : List ℕ} → last ≡ true → parsed b ≡ Short → Closes last o s b (refused_line (parsed_check Short) o)
closes_short {o = o} {s} {b} f e = record { none_goes = λ c g. absurd (zero_one (cc)); sheet = λ later z. subst (λ x. Sheet o s (b ++ x) (refused_line (parsed_check Short) o)) (sym (z f)) (subst (λ x. Sheet o s x (refused_line (parsed_check Short) o)) (sym (append-nil b)) (sheets.short e)) }

closes_end : {last : Bool} {o : ℕ} {s : State} {b : List ℕ} → last ≡ true → parsed b ≡ Nothing → Closes last o s b (line end_word [])
closes_end {o = o} {s} {b} f e = record { none_goes = λ c g. absurd (zero_one (cc)); sheet = λ later z. subst (λ x. Sheet o s (b ++ x) (line end_word [])) (sym (z f)) (subst (λ x. Sheet o s (x ++ []) (line end_word [])) (sym (nothing_empty b e)) sheets.ends) }

module _ (b : List ℕ) (o : ℕ) (at : ℕ) (l : List ℕ) (to most : ℕ) {h : Held} {v m : List ℕ} (k : Kept h v m) (i : at ≤ length b) (e : most ≡ to + line_length) (fit : most ≤ length l) where
  -- nothing was written
  unwritten : {l' : List ℕ} → l' ≡ take (most - to) (drop to l) → Appends l to [] (take to l ++ (l' ++ drop (most - to) (drop to l))) (to + 0)
  unwritten {l'} f = window_appends l to most {text = []} {l' = l'} {count = 0} e fit (rw f (record { text_stands = refl; within = omega arith; long = refl; rest = refl }))

  -- the job is closed by this line
  shut : {last : Bool} {said l' : List ℕ} {count : ℕ} → Wrote (take (most - to) (drop to l)) said l' count → Closes last (o + at) (state_of h v m) (drop at b) said →
      Course b last o h v m at l to h v m (at + 0) (take to l ++ (l' ++ drop (most - to) (drop to l))) (to + count) halts.Closed
  shut {last} {said} {l'} {count} w z =
      let a = window_appends l to most e fit w in
      let same : at + 0 ≡ at = omega arith in
      rw same (record {
        text = [];
        said = said;
        performed = none;
        wrote = a;
        kept = k;
        forwards = omega arith;
        inside = i;
        room = appends_room a (omega arith);
        input = λ q. absurd (zero_one (cc));
        full = λ q. absurd (zero_one (cc));
        closed = λ _. z;
        quiet = λ q. absurd (q refl);
      })

  -- a turn of this kind
  abbrev Turned : Bool → Turn → Held → List ℕ → List ℕ → List ℕ → Type 0
  Turned last turn h' v' m' l' =
      Course b last o h v m at l to h' v' m' (at + turn_used turn) (take to l ++ (l' ++ drop (most - to) (drop to l))) (to + turn_wrote turn) (halt_of turn)
      × (halt_of turn ≡ halts.On → at < at + turn_used turn)

  same_state : {last : Bool} (turn : Turn) {h' : Held} {v' m' : List ℕ} (l' : List ℕ) → Same h v m h' v' m' → Turned last turn h v m l' → Turned last turn h' v' m' l'
  same_state {last} turn {h'} {v'} {m'} l' s x =
      subst (λ (y : Held). Turned last turn y v' m' l') (sym s.held)
      (subst (λ y. Turned last turn h y m' l') (sym s.block) (subst (λ y. Turned last turn h v y l') (sym s.marks) x))

  turned_wait : {last : Bool} {turn : Turn} {l' : List ℕ} → turn ≡ Wait → l' ≡ take (most - to) (drop to l) → last ≡ false → Waits (drop at b) → Turned last turn h v m l'
  turned_wait {last} {turn} {l'} t f q w =
      let a = unwritten f in
      let same : at + 0 ≡ at = omega arith in
      subst (λ (y : Turn). Turned last y h v m l') (sym t) (
        rw same (record {
          text = [];
          said = [];
          performed = none;
          wrote = a;
          kept = k;
          forwards = omega arith;
          inside = i;
          room = appends_room a (omega arith);
          input = λ _. (q, w);
          full = λ z. absurd (zero_one (cc));
          closed = λ z. absurd (zero_one (cc));
          quiet = λ _. refl;
        }),
        λ z. absurd (zero_one (cc)),
      )

  turned_end : {last : Bool} {turn : Turn} {said l' : List ℕ} {count : ℕ} → turn ≡ End count → Wrote (take (most - to) (drop to l)) said l' count →
      Closes last (o + at) (state_of h v m) (drop at b) said → Turned last turn h v m l'
  turned_end {last} {turn} {said} {l'} {count} t w z = subst (λ (y : Turn). Turned last y h v m l') (sym t) (shut w z, λ z. absurd (zero_one (cc)))

  turned_stop : {last : Bool} {turn : Turn} {said l' : List ℕ} {count : ℕ} {x : Refusal} → turn ≡ Stop x count → Wrote (take (most - to) (drop to l)) said l' count →
      Closes last (o + at) (state_of h v m) (drop at b) said → Turned last turn h v m l'
  turned_stop {last} {turn} {said} {l'} {count} {x} t w z = subst (λ (y : Turn). Turned last y h v m l') (sym t) (shut w z, λ z. absurd (zero_one (cc)))

  turned_on : {last : Bool} {turn : Turn} {h' : Held} {v' m' l' : List ℕ} (c : Command) → parsed (drop at b) ≡ Whole c → refusal_of (state_of h v m) c ≡ Ok tt →
      Goes c (size_of (get_or (drop at b) 0 0)) h v m (take (most - to) (drop to l)) turn h' v' m' l' → Turned last turn h' v' m' l'
  turned_on {last} {turn} {h'} {v'} {m'} {l'} c p r g =
      let a = window_appends l to most e fit g.wrote in
      let s = whole_size (drop at b) c p in
      let d = length-drop at b in
      let one = performed_one c (size_of (get_or (drop at b) 0 0)) p r g.acts refl in
      subst (λ (y : Turn). Turned last y h' v' m' l') (sym g.on) (
        record {
          text = g.text;
          said = [];
          performed = one;
          wrote = subst (λ t. Appends l to t _ (to + g.count)) (sym (append-nil g.text)) a;
          kept = g.acts.kept;
          forwards = omega arith;
          inside = omega arith;
          room = appends_room a (omega arith);
          input = λ z. absurd (zero_one (cc));
          full = λ z. absurd (zero_one (cc));
          closed = λ z. absurd (zero_one (cc));
          quiet = λ _. refl;
        },
        λ _. omega arith,
      )

  pub course_turn : {last : Bool} {turn : Turn} {h' : Held} {v' m' l' : List ℕ} → Turns h v m (take (most - to) (drop to l)) (take (length b - at) (drop at b)) last (o + at) turn h' v' m' l' →
      Course b last o h v m at l to h' v' m' (at + turn_used turn) (take to l ++ (l' ++ drop (most - to) (drop to l))) (to + turn_wrote turn) (halt_of turn)
      × (halt_of turn ≡ halts.On → at < at + turn_used turn)
  course_turn {last} {turn} {h'} {v'} {m'} {l'} whole = go (parsed (drop at b)) last refl refl
    where
      t : Turns h v m (take (most - to) (drop to l)) (drop at b) last (o + at) turn h' v' m' l'
      t = subst (λ x. Turns h v m (take (most - to) (drop to l)) x last (o + at) turn h' v' m' l') (take_all (length b - at) (drop at b) (omega (arith, length-drop at b))) whole

      go : (p : Parsed) (x : Bool) → parsed (drop at b) ≡ p → last ≡ x → Turned last turn h' v' m' l'
      go Nothing false p q = let g = t.nothing_yet p q in same_state turn l' g.1 (turned_wait g.0 g.2 q (inl p))
      go Nothing true p q = let g = t.ends p q in same_state turn l' g.1 (turned_end g.0.ended g.0.wrote (closes_end q p))
      go Short false p q = let g = t.cut_yet p q in same_state turn l' g.1 (turned_wait g.0 g.2 q (inr p))
      go Short true p q = let g = t.short p q in same_state turn l' g.1 (turned_stop g.0.stopped g.0.wrote (closes_short q p))
      go Unknown x p q = let g = t.unknown p in same_state turn l' g.1 (turned_stop g.0.stopped g.0.wrote (closes_unknown p))
      go (Whole c) x p q =
          by_cases (dec_pass (refusal_of (state_of h v m) c))
          (λ z. turned_on c p z (t.goes_on c p z))
          (λ n. let g = t.refused c p n in same_state turn l' g.1 (turned_stop g.0.stopped g.0.wrote (closes_refused c p n)))

-- ---- where a turn leads: its numbers fit

module _ {turn : Turn} (at to : ℕ) where
  pub on_fits : {used count : ℕ} → turn ≡ On used count → (at + turn_used turn < 2 ^ 64) × (to + turn_wrote turn < 2 ^ 64) → (at + used < 2 ^ 64) × (to + count < 2 ^ 64)
  on_fits e p = (subst (λ (y : Turn). at + turn_used y < 2 ^ 64) e p.0, subst (λ (y : Turn). to + turn_wrote y < 2 ^ 64) e p.1)

  pub end_fits : {count : ℕ} → turn ≡ End count → (at + turn_used turn < 2 ^ 64) × (to + turn_wrote turn < 2 ^ 64) → to + count < 2 ^ 64
  end_fits e p = subst (λ (y : Turn). to + turn_wrote y < 2 ^ 64) e p.1

  pub stop_fits : {x : Refusal} {count : ℕ} → turn ≡ Stop x count → (at + turn_used turn < 2 ^ 64) × (to + turn_wrote turn < 2 ^ 64) → to + count < 2 ^ 64
  stop_fits e p = subst (λ (y : Turn). to + turn_wrote y < 2 ^ 64) e p.1

pub plus_none : (n : ℕ) → n ≡ n + 0
plus_none n = omega arith

-- ---- where the commands stop

-- as a number, for measures
abbrev pub halt_number : Halt → ℕ
halt_number halts.On = 0
halt_number halts.Input = 1
halt_number halts.Room = 2
halt_number halts.Closed = 3

pub on_by : (x : Halt) → halt_number x ≡ 0 → x ≡ halts.On
on_by halts.On e = refl
on_by halts.Input e = absurd (omega (arith, e))
on_by halts.Room e = absurd (omega (arith, e))
on_by halts.Closed e = absurd (omega (arith, e))

pub room_not_on : ◌≡◌ {A = Halt} halts.Room halts.On → ⊥
room_not_on e = let z : 2 ≡ 0 = ap halt_number e in omega (arith, z)

-- something is wanted
pub wants : (x : Halt) → (x ≡ halts.On → ⊥) → (x ≡ halts.Closed → ⊥) → (x ≡ halts.Input) ⊎ (x ≡ halts.Room)
wants halts.On a b = absurd (a refl)
wants halts.Input a b = inl refl
wants halts.Room a b = inr refl
wants halts.Closed a b = absurd (b refl)
