-- How a turn keeps its promise, case by case.
-- Main results: on_nothing_yet, on_cut_yet, on_end, on_unknown, on_short, on_refused, on_acts; says_refused, says_end; turn_not_eleven.
use Rattle.std.specs.Prelude.{◌≡◌, refl, ◌≢◌, Bool, true, false, List, [], ◌∷◌, ℕ, get_or, Ok, Err}
use Rattle.std.proofs.Common.{sym, ◌∙◌, ap, subst, arith}
use Rattle.refusals.specs.Refusals.{number_of, Check}
use Rattle.refusals.proofs.RefusalLaws.{not_eleven}
use Rattle.refusals.specs.declared.Refusal.{Refusal}
use Rattle.commands.specs.Commands.{size_of, parsed, parsed_check}
use Rattle.commands.specs.declared.Command.{Command}
use Rattle.commands.specs.declared.Parsed.{Parsed}
use Rattle.commands.specs.declared.Parsed.TheVariants.{Whole, Unknown, Short, Nothing}
use Rattle.lines.specs.Lines.{line, end_word, refused_word, Wrote}
use Rattle.state.specs.Refusing.{refusal_of}
use Rattle.act.specs.Acts.{state_of, Held}
use Rattle.turns.specs.Sheets.{refused_line}
use Rattle.turns.specs.Turns.{turn_number, Stops, Same, Ends, Goes, Turns}
use Rattle.turns.specs.declared.Turn.{Turn}
use Rattle.turns.specs.declared.Turn.TheVariants.{Wait, End, Stop, On, Bad}

zero_one : ◌≡◌ {A = ℕ} 0 1 → ⊥
zero_one e = omega arith

pub same : (h : Held) (v m : List ℕ) → Same h v m h v m
same h v m = record { held = refl; block = refl; marks = refl }

-- what stands at the front of the bytes is one thing
module _ {p : Parsed} where
  pub not_nothing_short : p ≡ Nothing → p ≡ Short → ⊥
  not_nothing_short e f = zero_one (cc)

  pub not_nothing_unknown : p ≡ Nothing → p ≡ Unknown → ⊥
  not_nothing_unknown e f = zero_one (cc)

  pub not_nothing_whole : {c : Command} → p ≡ Nothing → p ≡ Whole c → ⊥
  not_nothing_whole e f = zero_one (cc)

  pub not_short_unknown : p ≡ Short → p ≡ Unknown → ⊥
  not_short_unknown e f = zero_one (cc)

  pub not_short_whole : {c : Command} → p ≡ Short → p ≡ Whole c → ⊥
  not_short_whole e f = zero_one (cc)

  pub not_unknown_whole : {c : Command} → p ≡ Unknown → p ≡ Whole c → ⊥
  not_unknown_whole e f = zero_one (cc)

pub not_both : {b : Bool} → b ≡ true → b ≡ false → ⊥
not_both e f = zero_one (cc)

module _ {h : Held} {v m l b : List ℕ} {last : Bool} {offset : ℕ} {turn : Turn} {h' : Held} {v' m' l' : List ℕ} where
  pub on_nothing_yet : parsed b ≡ Nothing → last ≡ false → turn ≡ Wait → Same h v m h' v' m' → l' ≡ l → Turns h v m l b last offset turn h' v' m' l'
  on_nothing_yet p f t s e = record {
    nothing_yet = λ _ _. (t, s, e);
    cut_yet = λ q _. absurd (not_nothing_short p q);
    ends = λ _ q. absurd (not_both q f);
    unknown = λ q. absurd (not_nothing_unknown p q);
    short = λ q _. absurd (not_nothing_short p q);
    refused = λ c q _. absurd (not_nothing_whole p q);
    goes_on = λ c q _. absurd (not_nothing_whole p q);
  }

  pub on_end : parsed b ≡ Nothing → last ≡ true → Ends l turn l' → Same h v m h' v' m' → Turns h v m l b last offset turn h' v' m' l'
  on_end p f t s = record {
    nothing_yet = λ _ q. absurd (not_both f q);
    cut_yet = λ q _. absurd (not_nothing_short p q);
    ends = λ _ _. (t, s);
    unknown = λ q. absurd (not_nothing_unknown p q);
    short = λ q _. absurd (not_nothing_short p q);
    refused = λ c q _. absurd (not_nothing_whole p q);
    goes_on = λ c q _. absurd (not_nothing_whole p q);
  }

  pub on_cut_yet : parsed b ≡ Short → last ≡ false → turn ≡ Wait → Same h v m h' v' m' → l' ≡ l → Turns h v m l b last offset turn h' v' m' l'
  on_cut_yet p f t s e = record {
    nothing_yet = λ q _. absurd (not_nothing_short q p);
    cut_yet = λ _ _. (t, s, e);
    ends = λ q _. absurd (not_nothing_short q p);
    unknown = λ q. absurd (not_short_unknown p q);
    short = λ _ q. absurd (not_both q f);
    refused = λ c q _. absurd (not_short_whole p q);
    goes_on = λ c q _. absurd (not_short_whole p q);
  }

  pub on_short : parsed b ≡ Short → last ≡ true → Stops (parsed_check Short) offset l turn l' → Same h v m h' v' m' → Turns h v m l b last offset turn h' v' m' l'
  on_short p f t s = record {
    nothing_yet = λ q _. absurd (not_nothing_short q p);
    cut_yet = λ _ q. absurd (not_both f q);
    ends = λ q _. absurd (not_nothing_short q p);
    unknown = λ q. absurd (not_short_unknown p q);
    short = λ _ _. (t, s);
    refused = λ c q _. absurd (not_short_whole p q);
    goes_on = λ c q _. absurd (not_short_whole p q);
  }

  pub on_unknown : parsed b ≡ Unknown → Stops (parsed_check Unknown) offset l turn l' → Same h v m h' v' m' → Turns h v m l b last offset turn h' v' m' l'
  on_unknown p t s = record {
    nothing_yet = λ q _. absurd (not_nothing_unknown q p);
    cut_yet = λ q _. absurd (not_short_unknown q p);
    ends = λ q _. absurd (not_nothing_unknown q p);
    unknown = λ _. (t, s);
    short = λ q _. absurd (not_short_unknown q p);
    refused = λ c q _. absurd (not_unknown_whole p q);
    goes_on = λ c q _. absurd (not_unknown_whole p q);
  }

  pub on_refused : (c : Command) {k : Check} → parsed b ≡ Whole c → k ≡ refusal_of (state_of h v m) c → k ≢ (Ok tt) → Stops k offset l turn l' →
      Same h v m h' v' m' → Turns h v m l b last offset turn h' v' m' l'
  on_refused c p e n t s = record {
    nothing_yet = λ q _. absurd (not_nothing_whole q p);
    cut_yet = λ q _. absurd (not_short_whole q p);
    ends = λ q _. absurd (not_nothing_whole q p);
    unknown = λ q. absurd (not_unknown_whole q p);
    short = λ q _. absurd (not_short_whole q p);
    refused = λ d q _. let f : c ≡ d = cc in (subst (λ x. Stops x offset l turn l') (e ∙ ap (refusal_of (state_of h v m)) f) t, s);
    goes_on = λ d q z. let f : c ≡ d = cc in absurd (n (e ∙ ap (refusal_of (state_of h v m)) f ∙ z));
  }

  pub on_acts : (c : Command) (size : ℕ) → parsed b ≡ Whole c → size ≡ size_of (get_or b 0 0) → refusal_of (state_of h v m) c ≡ Ok tt → Goes c size h v m l turn h' v' m' l' →
      Turns h v m l b last offset turn h' v' m' l'
  on_acts c size p e r g = record {
    nothing_yet = λ q _. absurd (not_nothing_whole q p);
    cut_yet = λ q _. absurd (not_short_whole q p);
    ends = λ q _. absurd (not_nothing_whole q p);
    unknown = λ q. absurd (not_unknown_whole q p);
    short = λ q _. absurd (not_short_whole q p);
    refused = λ d q z. let f : c ≡ d = cc in absurd (z (ap (refusal_of (state_of h v m)) (sym f) ∙ r));
    goes_on = λ d q z. let f : c ≡ d = cc in
        subst (λ x. Goes d x h v m l turn h' v' m' l') e (subst (λ (x : Command). Goes x size h v m l turn h' v' m' l') f g);
  }

-- the lines
pub says_refused : {l l' : List ℕ} (x : Refusal) (offset count : ℕ) {number : ℕ} → number ≡ number_of x → Wrote l (line refused_word (number ∷ offset ∷ [])) l' count →
    Stops (Err x) offset l (Stop x count) l'
unfolding refused_line
says_refused {l} {l'} x offset count e w =
    record { refusal = x; at = refl; count = count; stopped = refl; number = refl; length = refl; wrote = subst (λ n. Wrote l (line refused_word (n ∷ offset ∷ [])) l' count) e w }

pub says_end : {l l' : List ℕ} (count : ℕ) → Wrote l (line end_word []) l' count → Ends l (End count) l'
says_end count w = record { count = count; ended = refl; length = refl; wrote = w }

-- no turn has the number that is struck from the table (document 02, N4)
pub turn_not_eleven : (t : Turn) → turn_number t ≢ 11
turn_not_eleven Wait e = omega (arith, e)
turn_not_eleven (End count) e = omega (arith, e)
turn_not_eleven (Stop x count) e = not_eleven x e
turn_not_eleven (On size count) e = omega (arith, e)
turn_not_eleven (Bad x) e = not_eleven x e
