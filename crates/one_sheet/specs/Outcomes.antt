-- What a turn with the last bytes at hand comes to: it goes on, or its line closes the sheet.
-- Main definitions: Closing, Outcome. Main results: outcome; on_count, end_count, stop_count; never_waits, never_bad.
use Rattle.std.specs.Prelude.{◌≡◌, refl, ◌≢◌, true, List, [], ℕ, ◌≤◌, ◌<◌, length, get_or, take, Ok}
use Rattle.std.proofs.Common.{sym, ◌∙◌, subst, arith}
use Rattle.std.proofs.Math.Logic.{by_cases}
use Rattle.refusals.proofs.RefusalLaws.{dec_pass}
use Rattle.refusals.specs.declared.Refusal.{Refusal}
use Rattle.commands.specs.Commands.{size_of, parsed}
use Rattle.commands.specs.declared.Command.{Command}
use Rattle.commands.specs.declared.Parsed.{Parsed}
use Rattle.commands.specs.declared.Parsed.TheVariants.{Whole, Unknown, Short, Nothing}
use Rattle.lines.specs.Lines.{line, end_word}
use Rattle.state.specs.State.{State}
use Rattle.state.specs.Refusing.{refusal_of}
use Rattle.act.specs.Acts.{state_of, Acts, Held}
use Rattle.turns.specs.Sheets as sheets
use Rattle.turns.specs.Sheets.{Sheet}
use Rattle.turns.specs.Turns.{Same, Turns}
use Rattle.turns.specs.declared.Turn.{Turn}
use Rattle.turns.specs.declared.Turn.TheVariants.{Wait, End, Stop, On, Bad}
use Rattle.one_sheet.specs.ParsedLaws.{zero_one, nothing_empty, whole_size}

-- the line closes the sheet: no command goes on from here
pub record Closing (o : ℕ) (s : State) (b said : List ℕ) : Type 0 where
  pub none_goes : (c : Command) → parsed b ≡ Whole c → refusal_of s c ≢ (Ok tt)
  pub sheet : Sheet o s b said

-- what a turn comes to when no more bytes come: it goes on, or its line closes the sheet
pub data Outcome (h : Held) (v m b : List ℕ) (o : ℕ) (turn : Turn) (h' : Held) (v' m' l' : List ℕ) : Type 0 where
  went : (used count : ℕ) → turn ≡ On used count → (c : Command) → parsed b ≡ Whole c → refusal_of (state_of h v m) c ≡ Ok tt → used ≡ size_of (get_or b 0 0) →
      count ≤ length l' → Acts c h v m (take count l') h' v' m' → Outcome h v m b o turn h' v' m' l'
  ended : (count : ℕ) → turn ≡ End count → count ≤ length l' → Closing o (state_of h v m) b (take count l') → Same h v m h' v' m' → Outcome h v m b o turn h' v' m' l'
  stopped : (x : Refusal) (count : ℕ) → turn ≡ Stop x count → count ≤ length l' → Closing o (state_of h v m) b (take count l') → Same h v m h' v' m' → Outcome h v m b o turn h' v' m' l'

pub outcome : {h : Held} {v m l b : List ℕ} {o : ℕ} {turn : Turn} {h' : Held} {v' m' l' : List ℕ} → Turns h v m l b true o turn h' v' m' l' → Outcome h v m b o turn h' v' m' l'
outcome {h} {v} {m} {l} {b} {o} {turn} {h'} {v'} {m'} {l'} t = go (parsed b) refl
  where
    closing : {said : List ℕ} (count : ℕ) → take count l' ≡ said → Sheet o (state_of h v m) b said → ((c : Command) → parsed b ≡ Whole c → refusal_of (state_of h v m) c ≢ (Ok tt)) →
        Closing o (state_of h v m) b (take count l')
    closing count e s n = record { none_goes = n; sheet = subst (Sheet o (state_of h v m) b) (sym e) s }

    go : (p : Parsed) → parsed b ≡ p → Outcome h v m b o turn h' v' m' l'
    go (Whole c) e =
        by_cases (dec_pass (refusal_of (state_of h v m) c))
        (λ z. let g = t.goes_on c e z in
        went _ g.count g.on c e z refl g.wrote.within (subst (λ x. Acts c h v m x h' v' m') (sym g.wrote.text_stands) g.acts))
        (λ n. let g = t.refused c e n in
        stopped g.0.refusal g.0.count g.0.stopped g.0.wrote.within
        (closing g.0.count g.0.wrote.text_stands (sheets.refused c e n) (λ d f. let q : c ≡ d = cc in subst (λ (x : Command). refusal_of (state_of h v m) x ≢ (Ok tt)) q n)) g.1)
    go Unknown e =
        let g = t.unknown e in
        stopped g.0.refusal g.0.count g.0.stopped g.0.wrote.within (closing g.0.count g.0.wrote.text_stands (sheets.unknown e) (λ d f. absurd (zero_one (cc)))) g.1
    go Short e =
        let g = t.short e refl in
        stopped g.0.refusal g.0.count g.0.stopped g.0.wrote.within (closing g.0.count g.0.wrote.text_stands (sheets.short e) (λ d f. absurd (zero_one (cc)))) g.1
    go Nothing e =
        let g = t.ends e refl in
        ended g.0.count g.0.ended g.0.wrote.within
        (closing g.0.count g.0.wrote.text_stands (subst (λ x. Sheet o (state_of h v m) x (line end_word [])) (sym (nothing_empty b e)) sheets.ends) (λ d f. absurd (zero_one (cc)))) g.1

module _ {h : Held} {v m b : List ℕ} {o : ℕ} {turn : Turn} {h' : Held} {v' m' l' : List ℕ} where
  pub on_count : (used count : ℕ) → turn ≡ On used count → Outcome h v m b o turn h' v' m' l' →
      (count ≤ length l') × (0 < used) × (used ≤ length b)
      × ((c : Command) × (parsed b ≡ Whole c) × (refusal_of (state_of h v m) c ≡ Ok tt) × (used ≡ size_of (get_or b 0 0)) × Acts c h v m (take count l') h' v' m')
  on_count used count e (went u k f c w z q small a) =
      let s : used ≡ u = cc in
      let t : count ≡ k = cc in
      let y = whole_size b c w in
      (rw t small, omega arith, omega arith, (c, w, z, s ∙ q, rw t a))
  on_count used count e (ended k f small s y) = absurd (zero_one (cc))
  on_count used count e (stopped r k f small s y) = absurd (zero_one (cc))

  pub end_count : (count : ℕ) → turn ≡ End count → Outcome h v m b o turn h' v' m' l' → (count ≤ length l') × Closing o (state_of h v m) b (take count l') × Same h v m h' v' m'
  end_count count e (went u k f c w z q small a) = absurd (zero_one (cc))
  end_count count e (ended k f small s y) = let t : count ≡ k = cc in (rw t small, rw t s, y)
  end_count count e (stopped r k f small s y) = absurd (zero_one (cc))

  pub stop_count : (x : Refusal) (count : ℕ) → turn ≡ Stop x count → Outcome h v m b o turn h' v' m' l' → (count ≤ length l') × Closing o (state_of h v m) b (take count l') × Same h v m h' v' m'
  stop_count x count e (went u k f c w z q small a) = absurd (zero_one (cc))
  stop_count x count e (ended k f small s y) = absurd (zero_one (cc))
  stop_count x count e (stopped r k f small s y) = let t : count ≡ k = cc in (rw t small, rw t s, y)

  pub never_waits : turn ≡ Wait → Outcome h v m b o turn h' v' m' l' → ⊥
  never_waits e (went u k f c w z q small a) = zero_one (cc)
  never_waits e (ended k f small s y) = zero_one (cc)
  never_waits e (stopped r k f small s y) = zero_one (cc)

  pub never_bad : (x : Refusal) → turn ≡ Bad x → Outcome h v m b o turn h' v' m' l' → ⊥
  never_bad x e (went u k f c w z q small a) = zero_one (cc)
  never_bad x e (ended k f small s y) = zero_one (cc)
  never_bad x e (stopped r k f small s y) = zero_one (cc)
