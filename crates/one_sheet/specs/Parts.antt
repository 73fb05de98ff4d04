-- A job read in parts of any size, and what a turn on a part of the bytes says of the whole.
-- Main definitions: joined, Fed, Prefix. Main results: prefix_turns, fed_sheet, sheet_fed, waits_exactly.
use Rattle.std.specs.Prelude.{◌≡◌, refl, ◌⊎◌, ◌≢◌, ◌↔◌, Bool, true, false, List, [], ◌∷◌, ◌++◌, ℕ, zero, suc, ◌+◌, ◌-◌, ◌<◌, length, get_or, drop, replicate, Ok}
use Rattle.std.proofs.Common.{sym, ◌∙◌, ap, subst, inl, inr, ⊎_elim, append_assoc, append-nil, arith, length-append, length-drop}
use Rattle.std.proofs.Math.Logic.{by_cases}
use Rattle.std.proofs.lemmas.List.{length-replicate, drop-append-le}
use Rattle.std.proofs.Math.ListN.{get_or-append}
use Rattle.refusals.proofs.RefusalLaws.{dec_pass}
use Rattle.commands.specs.Commands.{size_of, parsed, parsed_check}
use Rattle.commands.specs.CommandLaws as commands
use Rattle.commands.specs.declared.Command.{Command}
use Rattle.commands.specs.declared.Parsed.{Parsed}
use Rattle.commands.specs.declared.Parsed.TheVariants.{Whole, Unknown, Short, Nothing}
use Rattle.lines.specs.Lines.{line, end_word}
use Rattle.state.specs.State.{State}
use Rattle.state.specs.Refusing.{refusal_of}
use Rattle.act.specs.Meaning.{Means}
use Rattle.act.specs.Acts.{state_of, Held}
use Rattle.turns.specs.Sheets as sheets
use Rattle.turns.specs.Sheets.{Sheet, refused_line}
use Rattle.one_sheet.specs.OneSheet.{Goes, sheet_ends, sheet_unknown, sheet_short, sheet_refused, sheet_goes}
use Rattle.turns.specs.Turns.{Same, Turns}
use Rattle.turns.proofs.TurnLaws.{on_unknown, on_refused, on_acts}
use Rattle.turns.specs.declared.Turn.{Turn}
use Rattle.turns.specs.declared.Turn.TheVariants.{Wait}
use Rattle.one_sheet.specs.ParsedLaws.{zero_one, nothing_empty, whole_size, short_long, parsed_prefix}
use Rattle.one_sheet.specs.Outcomes.{outcome, never_waits}

first_same : (a b : List ℕ) → 0 < length a → get_or (a ++ b) 0 0 ≡ get_or a 0 0
first_same a b h = get_or-append a b 0 0 h

-- ---- a turn on the first bytes: it waits, or it is the turn on all of them

module _ {h : Held} {v m l a : List ℕ} {o : ℕ} {turn : Turn} {h' : Held} {v' m' l' : List ℕ} where
  pub prefix_turns : Turns h v m l a false o turn h' v' m' l' →
      ((turn ≡ Wait) × Same h v m h' v' m' × (l' ≡ l)) ⊎ ((b : List ℕ) (last : Bool) → Turns h v m l (a ++ b) last o turn h' v' m' l')
  prefix_turns t = go (parsed a) refl
    where
      go : (p : Parsed) → parsed a ≡ p → ((turn ≡ Wait) × Same h v m h' v' m' × (l' ≡ l)) ⊎ ((b : List ℕ) (last : Bool) → Turns h v m l (a ++ b) last o turn h' v' m' l')
      go Nothing e = inl (t.nothing_yet e refl)
      go Short e = inl (t.cut_yet e refl)
      go Unknown e =
          let g = t.unknown e in
          inr (λ b last. on_unknown (parsed_prefix a b (λ q. zero_one (cc)) (λ q. zero_one (cc)) ∙ e) g.0 g.1)
      go (Whole c) e =
          by_cases (dec_pass (refusal_of (state_of h v m) c))
          (λ z. inr (λ b last.
          on_acts c (size_of (get_or a 0 0)) (parsed_prefix a b (λ q. zero_one (cc)) (λ q. zero_one (cc)) ∙ e)
          (ap size_of (sym (first_same a b (omega (arith, whole_size a c e))))) z (t.goes_on c e z)))
          (λ n. let g = t.refused c e n in
          inr (λ b last. on_refused c (parsed_prefix a b (λ q. zero_one (cc)) (λ q. zero_one (cc)) ∙ e) refl n g.0 g.1))

-- ---- a job in parts

unfoldable pub joined : List (List ℕ) → List ℕ
joined [] = []
joined (p ∷ ps) = p ++ joined ps

-- the lines that come of the bytes at hand and of parts that are read when the bytes at hand are used up
pub data Fed : ℕ → State → List ℕ → List (List ℕ) → List ℕ → Type 0 where
  more : {o : ℕ} {s : State} {hand : List ℕ} {text : List ℕ} (part : List ℕ) (parts : List (List ℕ)) → (parsed hand ≡ Nothing) ⊎ (parsed hand ≡ Short) →
      Fed o s (hand ++ part) parts text → Fed o s hand (part ∷ parts) text
  ends : {o : ℕ} {s : State} {hand : List ℕ} → parsed hand ≡ Nothing → Fed o s hand [] (line end_word [])
  unknown : {o : ℕ} {s : State} {hand : List ℕ} {parts : List (List ℕ)} → parsed hand ≡ Unknown → Fed o s hand parts (refused_line (parsed_check Unknown) o)
  short : {o : ℕ} {s : State} {hand : List ℕ} → parsed hand ≡ Short → Fed o s hand [] (refused_line (parsed_check Short) o)
  refused : {o : ℕ} {s : State} {hand : List ℕ} {parts : List (List ℕ)} (c : Command) → parsed hand ≡ Whole c → refusal_of s c ≢ (Ok tt) →
      Fed o s hand parts (refused_line (refusal_of s c) o)
  goes_on : {o : ℕ} {s : State} {hand : List ℕ} {parts : List (List ℕ)} (s' : State) (text rest : List ℕ) (c : Command) → parsed hand ≡ Whole c → refusal_of s c ≡ Ok tt →
      Means c s s' text → Fed (o + size_of (get_or hand 0 0)) s' (drop (size_of (get_or hand 0 0)) hand) parts rest → Fed o s hand parts (text ++ rest)

-- however the job is cut, its lines are a sheet of the whole
pub fed_sheet : {o : ℕ} {s : State} {hand : List ℕ} {parts : List (List ℕ)} {text : List ℕ} → Fed o s hand parts text → Sheet o s (hand ++ joined parts) text
unfolding joined
fed_sheet {o} {s} {hand} {parts = ps} {text} (more part parts w f) = subst (λ b. Sheet o s b text) (append_assoc hand part (joined parts)) (fed_sheet f)
fed_sheet {o} {s} {hand} (ends e) = subst (λ b. Sheet o s b (line end_word [])) (sym (append-nil hand ∙ nothing_empty hand e)) sheets.ends
fed_sheet {o} {s} {hand} {parts} (unknown e) = sheets.unknown (parsed_prefix hand (joined parts) (λ q. zero_one (cc)) (λ q. zero_one (cc)) ∙ e)
fed_sheet {o} {s} {hand} (short e) = subst (λ b. Sheet o s b (refused_line (parsed_check Short) o)) (sym (append-nil hand)) (sheets.short e)
fed_sheet {o} {s} {hand} {parts} (refused c e n) = sheets.refused c (parsed_prefix hand (joined parts) (λ q. zero_one (cc)) (λ q. zero_one (cc)) ∙ e) n
fed_sheet {o} {s} {hand} {parts} (goes_on s' text rest c e z m f) =
    let w = whole_size hand c e in
    let same : get_or (hand ++ joined parts) 0 0 ≡ get_or hand 0 0 = first_same hand (joined parts) (omega arith) in
    sheets.goes_on {o = o} {s = s} {b = hand ++ joined parts} s' text rest c (parsed_prefix hand (joined parts) (λ q. zero_one (cc)) (λ q. zero_one (cc)) ∙ e) z m
    (rw (same, drop-append-le (size_of (get_or hand 0 0)) hand (joined parts) w.1) (fed_sheet f))

-- ---- and every sheet comes of every cut

-- the claim, for bytes and parts of together less than n
abbrev Feeds : ℕ → Type 0
Feeds n = (o : ℕ) (s : State) (text hand : List ℕ) (parts : List (List ℕ)) → length (hand ++ joined parts) + length parts < n →
    Sheet o s (hand ++ joined parts) text → Fed o s hand parts text

feed_more : (n : ℕ) → Feeds n → {o : ℕ} {s : State} {text : List ℕ} (hand part : List ℕ) (parts : List (List ℕ)) → (parsed hand ≡ Nothing) ⊎ (parsed hand ≡ Short) →
    length (hand ++ joined (part ∷ parts)) + length (part ∷ parts) < suc n → Sheet o s (hand ++ joined (part ∷ parts)) text → Fed o s hand (part ∷ parts) text
unfolding joined
feed_more n ih {o} {s} {text} hand part parts w less t =
    let e = append_assoc hand part (joined parts) in
    more part parts w (ih o s text (hand ++ part) parts (rw e (omega arith)) (subst (λ b. Sheet o s b text) (sym e) t))

feed_end : {o : ℕ} {s : State} {text : List ℕ} (hand : List ℕ) → Sheet o s (hand ++ joined []) text → Sheet o s hand text
unfolding joined
feed_end {o} {s} {text} hand t = subst (λ b. Sheet o s b text) (append-nil hand) t

feed_nothing : (n : ℕ) → Feeds n → {o : ℕ} {s : State} {text : List ℕ} (hand : List ℕ) (parts : List (List ℕ)) → parsed hand ≡ Nothing →
    length (hand ++ joined parts) + length parts < suc n → Sheet o s (hand ++ joined parts) text → Fed o s hand parts text
feed_nothing n ih {o} {s} hand [] e less t = subst (Fed o s hand []) (sym (sheet_ends (feed_end hand t) e)) (ends e)
feed_nothing n ih hand (part ∷ parts) e less t = feed_more n ih hand part parts (inl e) less t

feed_short : (n : ℕ) → Feeds n → {o : ℕ} {s : State} {text : List ℕ} (hand : List ℕ) (parts : List (List ℕ)) → parsed hand ≡ Short →
    length (hand ++ joined parts) + length parts < suc n → Sheet o s (hand ++ joined parts) text → Fed o s hand parts text
feed_short n ih {o} {s} hand [] e less t = subst (Fed o s hand []) (sym (sheet_short (feed_end hand t) e)) (short e)
feed_short n ih hand (part ∷ parts) e less t = feed_more n ih hand part parts (inr e) less t

feed_goes : (n : ℕ) → Feeds n → {o : ℕ} {s : State} {text : List ℕ} (hand : List ℕ) (parts : List (List ℕ)) (c : Command) → parsed hand ≡ Whole c → refusal_of s c ≡ Ok tt →
    length (hand ++ joined parts) + length parts < suc n → Goes o s (hand ++ joined parts) c text → Fed o s hand parts text
feed_goes n ih {o} {s} hand parts c e z less g =
    let w = whole_size hand c e in
    let size = size_of (get_or hand 0 0) in
    let same : get_or (hand ++ joined parts) 0 0 ≡ get_or hand 0 0 = first_same hand (joined parts) (omega arith) in
    let cut = drop-append-le size hand (joined parts) w.1 in
    let t : Sheet (o + size) g.state (drop size hand ++ joined parts) g.rest = rw (same, cut) at g.follows in
    let l = length-append hand (joined parts) in
    let k : length (drop size hand ++ joined parts) ≡ length hand - size + length (joined parts) =
    length-append (drop size hand) (joined parts) ∙ ap (λ x. x + length (joined parts)) (length-drop size hand) in
    subst (Fed o s hand parts) (sym g.parts)
    (goes_on g.state g.text g.rest c e z g.means (ih (o + size) g.state g.rest (drop size hand) parts (omega (arith, w)) t))

feed_step : (n : ℕ) → Feeds n → {o : ℕ} {s : State} {text : List ℕ} (hand : List ℕ) (parts : List (List ℕ)) →
    length (hand ++ joined parts) + length parts < suc n → Sheet o s (hand ++ joined parts) text → Fed o s hand parts text
feed_step n ih {o} {s} {text} hand parts less t = go (parsed hand) refl
  where
    go : (p : Parsed) → parsed hand ≡ p → Fed o s hand parts text
    go Nothing e = feed_nothing n ih hand parts e less t
    go Short e = feed_short n ih hand parts e less t
    go Unknown e =
        let p : parsed (hand ++ joined parts) ≡ Unknown = parsed_prefix hand (joined parts) (λ q. zero_one (cc)) (λ q. zero_one (cc)) ∙ e in
        subst (Fed o s hand parts) (sym (sheet_unknown t p)) (unknown e)
    go (Whole c) e =
        let p : parsed (hand ++ joined parts) ≡ Whole c = parsed_prefix hand (joined parts) (λ q. zero_one (cc)) (λ q. zero_one (cc)) ∙ e in
        by_cases (dec_pass (refusal_of s c))
        (λ z. feed_goes n ih hand parts c e z less (sheet_goes c t p z))
        (λ k. subst (Fed o s hand parts) (sym (sheet_refused c t p k)) (refused c e k))

feeds : (n : ℕ) → Feeds n
feeds zero o s text hand parts less t = absurd (omega arith)
feeds (suc n) o s text hand parts less t = feed_step n (feeds n) hand parts less t

pub sheet_fed : {o : ℕ} {s : State} {text : List ℕ} (hand : List ℕ) (parts : List (List ℕ)) → Sheet o s (hand ++ joined parts) text → Fed o s hand parts text
sheet_fed {o} {s} {text} hand parts t = feeds (suc (length (hand ++ joined parts) + length parts)) o s text hand parts (omega arith) t

-- ---- when a turn waits

module _ {h : Held} {v m l hand : List ℕ} {o : ℕ} {turn : Turn} {h' : Held} {v' m' l' : List ℕ} where
  -- a turn waits where no command stands whole at the front
  waits : {last : Bool} → Turns h v m l hand last o turn h' v' m' l' → turn ≡ Wait → (parsed hand ≡ Nothing) ⊎ (parsed hand ≡ Short)
  waits t w = go (parsed hand) refl
    where
      go : (p : Parsed) → parsed hand ≡ p → (parsed hand ≡ Nothing) ⊎ (parsed hand ≡ Short)
      go Nothing e = inl e
      go Short e = inr e
      go Unknown e = let g = (t.unknown e).0.stopped in absurd (zero_one (cc))
      go (Whole c) e =
          by_cases (dec_pass (refusal_of (state_of h v m) c))
          (λ z. let g = (t.goes_on c e z).on in absurd (zero_one (cc)))
          (λ n. let g = (t.refused c e n).0.stopped in absurd (zero_one (cc)))

-- the bytes are a proper prefix, the empty one included, of a command with a known first byte
pub record Prefix (b : List ℕ) : Type 0 where
  pub rest : List ℕ
  pub some : 0 < length rest
  pub whole : size_of (get_or (b ++ rest) 0 0) ≡ length (b ++ rest)

prefix_nothing : (b : List ℕ) → parsed b ≡ Nothing → Prefix b
unfolding size_of
prefix_nothing b e = rw (nothing_empty b e) (record { rest = 6 ∷ []; some = omega arith; whole = refl })

prefix_short : (b : List ℕ) → parsed b ≡ Short → Prefix b
prefix_short b e =
    let w = short_long b e in
    let k = size_of (get_or b 0 0) - length b in
    record {
      rest = replicate k 0;
      some = rw (length-replicate {A = ℕ} k 0) (omega arith);
      whole = rw (first_same b (replicate k 0) w.0, length-append b (replicate k 0), length-replicate {A = ℕ} k 0) (omega arith);
    }

prefix_parsed : (b : List ℕ) → Prefix b → (parsed b ≡ Nothing) ⊎ (parsed b ≡ Short)
prefix_parsed [] p = inl (sym (commands.nothing [] refl))
prefix_parsed (x ∷ b) p =
    let l = length-append (x ∷ b) p.rest in
    let s : size_of x ≡ length (x ∷ b) + length p.rest = p.whole ∙ l in
    inr (sym (commands.short (x ∷ b) (λ q. omega arith) refl (λ q. omega (arith, s)) (omega (arith, s, p.some))))

-- "need more bytes" exactly when more may come and the bytes at hand are such a prefix
pub waits_exactly : {h : Held} {v m l b : List ℕ} {last : Bool} {o : ℕ} {turn : Turn} {h' : Held} {v' m' l' : List ℕ} → Turns h v m l b last o turn h' v' m' l' →
    (turn ≡ Wait) ↔ ((last ≡ false) × Prefix b)
waits_exactly {h} {v} {m} {l} {b} {last} {o} {turn} {h'} {v'} {m'} {l'} t =
    (λ w. (more_come last refl w, ⊎_elim (prefix_nothing b) (prefix_short b) (waits t w)), λ p. ⊎_elim (λ e. (t.nothing_yet e p.0).0) (λ e. (t.cut_yet e p.0).0) (prefix_parsed b p.1))
  where
    more_come : (x : Bool) → last ≡ x → turn ≡ Wait → last ≡ false
    more_come false e w = e
    more_come true e w = absurd (never_waits w (outcome (subst (λ y. Turns h v m l b y o turn h' v' m' l') e t)))
