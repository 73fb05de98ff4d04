-- The sheet of a whole job: the chain of its commands' lines. The sheet of a job b is x where Sheet 0 start b x; it is one text (one_sheet, OneSheet).
use Rattle.std.specs.Prelude.{◌≡◌, ◌≢◌, false, List, [], ◌∷◌, ◌++◌, ℕ, ◌+◌, drop, get_or, Ok}
use Rattle.refusals.specs.Refusals.{check_number, Check}
use Rattle.plan.specs.Plans.{no_plan}
use Rattle.commands.specs.Commands.{size_of, parsed, parsed_check}
use Rattle.lines.specs.Lines.{line, refused_word, end_word}
use Rattle.state.specs.State.{State}
use Rattle.state.specs.Refusing.{refusal_of}
use Rattle.act.specs.Meaning.{Means}
use Rattle.commands.specs.declared.Command.{Command}
use Rattle.commands.specs.declared.Parsed.TheVariants.{Whole, Unknown, Short}

-- before the first plan there is none: no symbols, no marks
unfoldable pub start : State
start = record { planned = false; plan = no_plan; block = []; marks = [] }

-- "`refused`, number, offset of the command's first byte"
unfoldable pub refused_line : Check → ℕ → List ℕ
refused_line c offset = line refused_word (check_number c ∷ offset ∷ [])

-- the sheet of the bytes from an offset on, from a state
pub data Sheet : ℕ → State → List ℕ → List ℕ → Type 0 where
  -- "`end` closes a job that ran out at a command's boundary"
  ends : {o : ℕ} {s : State} → Sheet o s [] (line end_word [])
  -- "7, 8, 9, then the others"; "After `refused` the job stops"
  unknown : {o : ℕ} {s : State} {b : List ℕ} → parsed b ≡ Unknown → Sheet o s b (refused_line (parsed_check Unknown) o)
  short : {o : ℕ} {s : State} {b : List ℕ} → parsed b ≡ Short → Sheet o s b (refused_line (parsed_check Short) o)
  refused : {o : ℕ} {s : State} {b : List ℕ} (c : Command) → parsed b ≡ Whole c → refusal_of s c ≢ (Ok tt) → Sheet o s b (refused_line (refusal_of s c) o)
  -- a command that is not refused writes its line, and the rest follows from the state after it
  goes_on : {o : ℕ} {s : State} {b : List ℕ} (s' : State) (text rest : List ℕ) (c : Command) → parsed b ≡ Whole c → refusal_of s c ≡ Ok tt → Means c s s' text →
      Sheet (o + size_of (get_or b 0 0)) s' (drop (size_of (get_or b 0 0)) b) rest → Sheet o s b (text ++ rest)
