-- The commands one by one, and several of them.
-- Main results: quiet_none, quiet_both, symbol_performed, mark_performed, run_performed; appends_room, shows_none, shows_both, show_performed; quick_none, quick_both, quick_less.
use Rattle.std.specs.Prelude.{◌≡◌, Bool, true, cond, List, [], ◌∷◌, ◌++◌, ℕ, ◌+◌, ◌-◌, ◌*◌, ◌≤◌, ◌<◌, ltb, get_or, set, take, drop, Ok}
use Rattle.std.proofs.Math.Path.{refl, sym}
use Rattle.std.proofs.Common.{◌∙◌, ap, arith, length-take, length-drop, length-append, get_or-drop}
use Rattle.std.proofs.Math.Logic.{by_cases}
use Rattle.std.proofs.Math.Decide.{dec_lt}
use Rattle.std.proofs.Math.ListN.{length, length-set}
use borrow.Author.Tests.{lt-ltb, le-ltb, le-leb}
use Rattle.pieces.specs.Pieces.{Appends}
use Rattle.pieces.specs.PiecesLaws.{appends_none, appends_both}
use Rattle.commands.specs.Commands.{size_of, one, two, command_of, parsed}
use Rattle.commands.specs.CommandLaws as commands
use Rattle.commands.specs.declared.Command.{Command}
use Rattle.commands.specs.declared.Command.TheVariants.{SetSymbol, MarkOne, MarkRun, Show}
use Rattle.commands.specs.declared.Parsed.TheVariants.{Whole}
use Rattle.lines.specs.Lines.{line, symbol_word}
use Rattle.bits.specs.Bits.{Marked}
use Rattle.bits.specs.MarkedLaws.{Bytes}
use Rattle.state.specs.Refusing.{early, refusal_of}
use Rattle.act.specs.Acts.{state_of, Acts, Held, held_plan}
use Rattle.act.proofs.ActLaws.{symbol_set, one_marked, run_marked, shown}
use Rattle.one_sheet.specs.Performed.{none}
use Rattle.one_sheet.proofs.PerformedLaws.{performed_one, performed_both}
use Rattle.quick.specs.Quick.{Places, Quiet, Shows, Quick}

-- ---- what stands at an index

module _ (b : List ℕ) (at : ℕ) where
  front : (i : ℕ) → one (drop at b) i ≡ get_or b (at + i) 0
  front i = get_or-drop at b i 0

  first_is : {k : ℕ} → get_or b at 0 ≡ k → one (drop at b) 0 ≡ k
  first_is e = let f : at + 0 ≡ at = omega arith in front 0 ∙ ap (λ x. get_or b x 0) f ∙ e

  pair_is : (i j : ℕ) → j ≡ at + i → get_or b j 0 + 256 * get_or b (j + 1) 0 ≡ two (drop at b) i
  pair_is i j e =
      let f : j + 1 ≡ at + (i + 1) = omega arith in
      let g : get_or b j 0 ≡ one (drop at b) i = ap (λ x. get_or b x 0) e ∙ sym (front i) in
      let h : get_or b (j + 1) 0 ≡ one (drop at b) (i + 1) = ap (λ x. get_or b x 0) f ∙ sym (front (i + 1)) in
      rw (g, h)

  whole_is : (size : ℕ) {c : Command} → 0 < size → at + size ≤ length b → size ≡ size_of (one (drop at b) 0) → c ≡ command_of (drop at b) → parsed (drop at b) ≡ Whole c
  whole_is size p l e f = let d = length-drop at b in sym (commands.whole (drop at b) (λ z. omega arith) e (λ z. omega arith) (omega arith) f)

-- ---- what refuses none of them

module _ (places : ℕ) (h : Held) (v m : List ℕ) (p : Places places h v m) where
  set_passes : (c x : ℕ) → c < places → refusal_of (state_of h v m) (SetSymbol c x) ≡ Ok tt
  unfolding refusal_of state_of early
  set_passes c x l = rw (p.planned, lt-ltb c ((held_plan h).n * (held_plan h).t) (omega (arith, p.of)))

  mark_passes : (c : ℕ) → c < places → refusal_of (state_of h v m) (MarkOne c) ≡ Ok tt
  unfolding refusal_of state_of early
  mark_passes c l = rw (p.planned, lt-ltb c ((held_plan h).n * (held_plan h).t) (omega (arith, p.of)))

  run_passes : (c k : ℕ) → c + k ≤ places → refusal_of (state_of h v m) (MarkRun c k) ≡ Ok tt
  unfolding refusal_of state_of early
  run_passes c k l = rw (p.planned, le-leb (c + k) ((held_plan h).n * (held_plan h).t) (omega (arith, p.of)))

  show_passes : (c : ℕ) → c < places → refusal_of (state_of h v m) (Show c) ≡ Ok tt
  unfolding refusal_of state_of early
  show_passes c l = rw (p.planned, lt-ltb c ((held_plan h).n * (held_plan h).t) (omega (arith, p.of)))

-- ---- commands that write nothing

pub quiet_none : (places : ℕ) (b v m : List ℕ) (at : ℕ) → at ≤ length b → Quiet places b v m at v m at
quiet_none places b v m at l = record { went = λ h p. (none, p); forwards = omega arith; inside = l; block_long = refl; marks_long = refl }

pub quiet_both : {places : ℕ} {b v m : List ℕ} {at : ℕ} {v' m' : List ℕ} {at' : ℕ} {v'' m'' : List ℕ} {at'' : ℕ} →
    Quiet places b v m at v' m' at' → Quiet places b v' m' at' v'' m'' at'' → Quiet places b v m at v'' m'' at''
quiet_both x y = record {
  went = λ h p. let q = x.went h p in let r = y.went h q.1 in (performed_both q.0 r.0, r.1);
  forwards = omega (arith, x.forwards, y.forwards);
  inside = y.inside;
  block_long = y.block_long ∙ x.block_long;
  marks_long = y.marks_long ∙ x.marks_long;
}

-- a command of this size that acts so on every such plan
quiet_one : (places : ℕ) (b v m : List ℕ) (at size : ℕ) (c : Command) {v' m' : List ℕ} → parsed (drop at b) ≡ Whole c → size ≡ size_of (one (drop at b) 0) → at + size ≤ length b →
    ((h : Held) → Places places h v m → (refusal_of (state_of h v m) c ≡ Ok tt) × Acts c h v m [] h v' m') → length v' ≡ length v → length m' ≡ length m →
    Quiet places b v m at v' m' (at + size)
quiet_one places b v m at size c e f l a lv lm = record {
  went = λ h p. let x = a h p in (performed_one c size e x.0 x.1 f, record { planned = p.planned; of = p.of; kept = x.1.kept });
  forwards = omega arith;
  inside = l;
  block_long = lv;
  marks_long = lm;
}

module _ (places : ℕ) (b v m : List ℕ) (at : ℕ) (bytes : Bytes m) where
  pub symbol_performed : {c x : ℕ} {v' m' : List ℕ} → get_or b at 0 ≡ 3 → at + 4 ≤ length b → c ≡ get_or b (at + 1) 0 + 256 * get_or b (at + 1 + 1) 0 → x ≡ get_or b (at + 3) 0 → c < places →
      v' ≡ set v c x → Marked m c 1 0 m' → Quiet places b v m at v' m' (at + 4)
  unfolding size_of
  symbol_performed {c} {x} e l f g less s d =
      let size : 4 ≡ size_of (one (drop at b) 0) = rw (first_is b at e) in
      let command = commands.is_set_symbol (drop at b) {b = 3} (sym (first_is b at e)) refl (f ∙ pair_is b at 1 (at + 1) refl) (g ∙ sym (front b at 3)) in
      quiet_one places b v m at 4 (SetSymbol c x) (whole_is b at 4 (omega arith) l size command) size l
      (λ h p. (set_passes places h v m p c x less, symbol_set p.kept p.planned bytes c x (omega (arith, p.of)) s d))
      (ap length s ∙ length-set v c x) d.long

  pub mark_performed : {c : ℕ} {m' : List ℕ} → get_or b at 0 ≡ 4 → at + 3 ≤ length b → c ≡ get_or b (at + 1) 0 + 256 * get_or b (at + 1 + 1) 0 → c < places →
      Marked m c 1 1 m' → Quiet places b v m at v m' (at + 3)
  unfolding size_of
  mark_performed {c} e l f less d =
      let size : 3 ≡ size_of (one (drop at b) 0) = rw (first_is b at e) in
      let command = commands.is_mark_one (drop at b) {b = 4} (sym (first_is b at e)) refl (f ∙ pair_is b at 1 (at + 1) refl) in
      quiet_one places b v m at 3 (MarkOne c) (whole_is b at 3 (omega arith) l size command) size l
      (λ h p. (mark_passes places h v m p c less, one_marked p.kept p.planned bytes c (omega (arith, p.of)) d)) refl d.long

  pub run_performed : {c k : ℕ} {m' : List ℕ} → get_or b at 0 ≡ 5 → at + 5 ≤ length b → c ≡ get_or b (at + 1) 0 + 256 * get_or b (at + 1 + 1) 0 →
      k ≡ get_or b (at + 3) 0 + 256 * get_or b (at + 3 + 1) 0 → c + k ≤ places → Marked m c k 1 m' → Quiet places b v m at v m' (at + 5)
  unfolding size_of
  run_performed {c} {k} e l f g less d =
      let size : 5 ≡ size_of (one (drop at b) 0) = rw (first_is b at e) in
      let command = commands.is_mark_run (drop at b) {b = 5} (sym (first_is b at e)) refl (f ∙ pair_is b at 1 (at + 1) refl) (g ∙ pair_is b at 3 (at + 3) refl) in
      quiet_one places b v m at 5 (MarkRun c k) (whole_is b at 5 (omega arith) l size command) size l
      (λ h p. (run_passes places h v m p c k less, run_marked p.kept p.planned bytes c k (omega (arith, p.of)) d)) refl d.long

-- ---- commands that show symbols

-- what is put where there is room stands inside the buffer
pub appends_room : {l l' text : List ℕ} {to to' : ℕ} → Appends l to text l' to' → to ≤ length l → to' ≤ length l
appends_room {l} {l'} {text} {to} {to'} a h =
    let e : length (take to' l') ≡ length (take to l) + length text = ap length a.text_stands ∙ length-append (take to l) text in
    omega (arith, e, length-take to' l', length-take to l, a.past, a.long)

pub shows_none : (places : ℕ) (b v : List ℕ) (at : ℕ) (l : List ℕ) (to : ℕ) → at ≤ length b → to ≤ length l → Shows places b v at l to at l to
shows_none places b v at l to i r = record { text = []; went = λ h m p. none; wrote = appends_none l to; forwards = omega arith; inside = i; room = r }

pub shows_both : {places : ℕ} {b v : List ℕ} {at : ℕ} {l : List ℕ} {to at' : ℕ} {l' : List ℕ} {to' at'' : ℕ} {l'' : List ℕ} {to'' : ℕ} →
    Shows places b v at l to at' l' to' → Shows places b v at' l' to' at'' l'' to'' → Shows places b v at l to at'' l'' to''
shows_both x y = record {
  text = x.text ++ y.text;
  went = λ h m p. performed_both (x.went h m p) (y.went h m p);
  wrote = appends_both x.wrote y.wrote;
  forwards = omega (arith, x.forwards, y.forwards);
  inside = y.inside;
  room = omega (arith, y.room, x.wrote.long);
}

pub show_performed : (places : ℕ) (b v : List ℕ) (at : ℕ) (l : List ℕ) (to : ℕ) {c x : ℕ} {l' : List ℕ} {to' : ℕ} → get_or b at 0 ≡ 8 → at + 3 ≤ length b →
    c ≡ get_or b (at + 1) 0 + 256 * get_or b (at + 1 + 1) 0 → c < places → x ≡ get_or v c 0 →
    Appends l to (line symbol_word (c ∷ x ∷ [])) l' to' → to ≤ length l → Shows places b v at l to (at + 3) l' to'
unfolding size_of
show_performed places b v at l to {c} {x} e i f less y w r =
    let size : 3 ≡ size_of (one (drop at b) 0) = rw (first_is b at e) in
    let command = commands.is_show (drop at b) {b = 8} (sym (first_is b at e)) refl (f ∙ pair_is b at 1 (at + 1) refl) in
    record {
      text = line symbol_word (c ∷ x ∷ []);
      went = λ h m p. performed_one (Show c) 3 (whole_is b at 3 (omega arith) i size command) (show_passes places h v m p c less) (shown p.kept c (omega (arith, p.of)) (ap (λ z. line symbol_word (c ∷ z ∷ [])) y)) size;
      wrote = w;
      forwards = omega arith;
      inside = i;
      room = appends_room w r;
    }

-- ---- both

pub quick_none : (places : ℕ) (b v m : List ℕ) (at : ℕ) (l : List ℕ) (to : ℕ) → at ≤ length b → to ≤ length l → Quick places b v m at l to v m at l to
quick_none places b v m at l to i r =
    record { text = []; went = λ h p. (none, p); wrote = appends_none l to; forwards = omega arith; inside = i; room = r; block_long = refl; marks_long = refl }

pub quick_both : {places : ℕ} {b v m : List ℕ} {at : ℕ} {l : List ℕ} {to : ℕ} {v' m' : List ℕ} {at' : ℕ} {l' : List ℕ} {to' : ℕ} {v'' m'' : List ℕ} {at'' : ℕ} {l'' : List ℕ} {to'' : ℕ} {at''' : ℕ} →
    Quick places b v m at l to v' m' at' l' to' → Quiet places b v' m' at' v'' m'' at'' → Shows places b v'' at'' l' to' at''' l'' to'' → Quick places b v m at l to v'' m'' at''' l'' to''
quick_both x y z = record {
  text = x.text ++ z.text;
  went = λ h p.
      let q = x.went h p in
      let r = y.went h q.1 in
      (performed_both q.0 (performed_both r.0 (z.went h _ r.1)), r.1);
  wrote = appends_both x.wrote z.wrote;
  forwards = omega (arith, x.forwards, y.forwards, z.forwards);
  inside = z.inside;
  room = omega (arith, z.room, x.wrote.long);
  block_long = y.block_long ∙ x.block_long;
  marks_long = y.marks_long ∙ x.marks_long;
}

-- each turn of the loop goes forwards, or is the last one
pub quick_less : (n at at' : ℕ) {more : Bool} → more ≡ true → at' ≤ n → at ≤ at' → n - at' + cond (ltb at at') 1 0 < n - at + cond more 1 0
quick_less n at at' e h l =
    by_cases (dec_lt at at')
    (λ g. rw (e, lt-ltb at at' g) (omega arith))
    (λ g. rw (e, le-ltb at at' (omega arith)) (omega arith))
