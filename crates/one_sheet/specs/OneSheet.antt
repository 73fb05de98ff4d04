-- A job has one sheet: its bytes settle every line.
-- Main results: one_sheet, sheet_once; by what stands at the front of the bytes: sheet_ends, sheet_unknown, sheet_short, sheet_refused, sheet_goes.
use Rattle.std.specs.Prelude.{◌≡◌, refl, ◌≢◌, List, [], ◌++◌, ℕ, ◌+◌, drop, get_or, Ok}
use Rattle.std.proofs.Common.{sym, ◌∙◌, ap₂, subst, true≢false}
use Rattle.commands.specs.Commands.{size_of, parsed, parsed_check}
use Rattle.commands.specs.declared.Command.{Command}
use Rattle.commands.specs.declared.Parsed.{Parsed}
use Rattle.commands.specs.declared.Parsed.TheVariants.{Whole, Unknown, Short, Nothing}
use Rattle.lines.specs.Lines.{line, end_word}
use Rattle.state.specs.State.{State}
use Rattle.state.specs.Refusing.{refusal_of}
use Rattle.act.specs.Meaning.{Means}
use Rattle.act.proofs.MeaningOnce.{Standing, means_stands, means_once}
use Rattle.turns.specs.Sheets.{Sheet, start, refused_line, ends, unknown, short, refused, goes_on}
use Rattle.one_sheet.specs.ParsedLaws.{none}

-- ---- what a sheet is, by the front of the bytes

-- a command that goes on: its text, and the sheet of what follows
pub record Goes (o : ℕ) (s : State) (b : List ℕ) (c : Command) (y : List ℕ) : Type 0 where
  pub state : State
  pub text : List ℕ
  pub rest : List ℕ
  pub means : Means c s state text
  pub follows : Sheet (o + size_of (get_or b 0 0)) state (drop (size_of (get_or b 0 0)) b) rest
  pub parts : y ≡ text ++ rest

abbrev By : ℕ → State → List ℕ → List ℕ → Parsed → Type 0
By o s b y Nothing = y ≡ line end_word []
By o s b y Unknown = y ≡ refused_line (parsed_check Unknown) o
By o s b y Short = y ≡ refused_line (parsed_check Short) o
By o s b y (Whole c) = (refusal_of s c ≢ (Ok tt) → y ≡ refused_line (refusal_of s c) o) × (refusal_of s c ≡ Ok tt → Goes o s b c y)

sheet_by : {o : ℕ} {s : State} {b y : List ℕ} → Sheet o s b y → By o s b y (parsed b)
unfolding parsed
sheet_by ends = refl
sheet_by {o} {s} {b} {y} (unknown e) = subst (By o s b y) (sym e) refl
sheet_by {o} {s} {b} {y} (short e) = subst (By o s b y) (sym e) refl
sheet_by {o} {s} {b} {y} (refused c e n) = subst (By o s b y) (sym e) (λ _. refl, λ z. absurd (n z))
sheet_by {o} {s} {b} {y} (goes_on s' text rest c e z m t) =
    subst (By o s b y) (sym e) (λ n. absurd (n z), λ _. record { state = s'; text = text; rest = rest; means = m; follows = t; parts = refl })

module _ {o : ℕ} {s : State} {b y : List ℕ} where
  pub sheet_ends : Sheet o s b y → parsed b ≡ Nothing → y ≡ line end_word []
  sheet_ends t e = subst (By o s b y) e (sheet_by t)

  pub sheet_unknown : Sheet o s b y → parsed b ≡ Unknown → y ≡ refused_line (parsed_check Unknown) o
  sheet_unknown t e = subst (By o s b y) e (sheet_by t)

  pub sheet_short : Sheet o s b y → parsed b ≡ Short → y ≡ refused_line (parsed_check Short) o
  sheet_short t e = subst (By o s b y) e (sheet_by t)

  pub sheet_refused : (c : Command) → Sheet o s b y → parsed b ≡ Whole c → refusal_of s c ≢ (Ok tt) → y ≡ refused_line (refusal_of s c) o
  sheet_refused c t e = (subst (By o s b y) e (sheet_by t)).0

  pub sheet_goes : (c : Command) → Sheet o s b y → parsed b ≡ Whole c → refusal_of s c ≡ Ok tt → Goes o s b c y
  sheet_goes c t e = (subst (By o s b y) e (sheet_by t)).1

-- ---- one sheet

-- from any state that a job can be in
pub sheet_once : {o : ℕ} {s : State} {b x y : List ℕ} → Standing s → Sheet o s b x → Sheet o s b y → x ≡ y
sheet_once k ends q = sym (sheet_ends q none)
sheet_once k (unknown e) q = sym (sheet_unknown q e)
sheet_once k (short e) q = sym (sheet_short q e)
sheet_once k (refused c e n) q = sym (sheet_refused c q e n)
sheet_once {o} {s} {b} k (goes_on s' text rest c e z m t) q =
    let g = sheet_goes c q e z in
    let w = means_once k c z m g.means in
    let u = subst (λ (x : State). Sheet (o + size_of (get_or b 0 0)) x (drop (size_of (get_or b 0 0)) b) g.rest) (sym w.0) g.follows in
    ap₂ ◌++◌ w.1 (sheet_once (means_stands text k c z m) t u) ∙ sym g.parts

pub start_stands : Standing start
unfolding start
start_stands = record { good = λ e. absurd (true≢false (sym e)) }

-- a job has one sheet
pub one_sheet : {b x y : List ℕ} → Sheet 0 start b x → Sheet 0 start b y → x ≡ y
one_sheet p q = sheet_once start_stands p q
