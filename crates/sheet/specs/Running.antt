-- What a run over a whole job promises, and what holds on the way.
-- Main definitions: Follows, Cut, Runs; Running.
use Rattle.std.specs.Prelude.{◌≡◌, ◌≢◌, List, ℕ, ◌+◌, ◌≤◌, ◌<◌, length, take, drop, Result, Ok, Err}
use Rattle.commands.specs.Commands.{parsed}
use Rattle.commands.specs.declared.Command.{Command}
use Rattle.commands.specs.declared.Parsed.TheVariants as front
use Rattle.lines.specs.Lines.{line_length}
use Rattle.state.specs.State.{State}
use Rattle.state.specs.Refusing.{refusal_of}
use Rattle.act.specs.Meaning.{Means}
use Rattle.act.specs.Acts.{state_of, Kept, Held}
use Rattle.turns.specs.Sheets.{Sheet, start}
use Rattle.one_sheet.specs.Begins.{Begins}
use Rattle.putting.specs.declared.Phase.{Phase}
use Rattle.putting.specs.declared.Phase.TheVariants as phases
use Rattle.sheet.specs.declared.Full.{Full}

-- the line that follows: that of a command that goes on, or where none does the last line
pub data Follows (o : ℕ) (s : State) (b said : List ℕ) : Type 0 where
  goes : (c : Command) (s' : State) → parsed b ≡ front.Whole c → refusal_of s c ≡ Ok tt → Means c s s' said → Follows o s b said
  closes : ((c : Command) → parsed b ≡ front.Whole c → refusal_of s c ≢ (Ok tt)) → Sheet o s b said → Follows o s b said

-- a sheet that was cut: the text is the job's first lines, and there is no room for the line that follows
pub record Cut (job : List ℕ) (room : ℕ) (text : List ℕ) : Type 0 where
  pub offset : ℕ
  pub state : State
  pub begins : Begins job offset state text
  pub next : List ℕ
  pub follows : Follows offset state (drop offset job) next
  pub no_room : room < length text + length next

-- the length of what was written
abbrev pub written : Result ℕ Full → ℕ
written (Ok k) = k
written (Err f) = f.written

-- run: the sheet of the job, or where the lent sheet is too short its first lines. What stands past them is kept.
pub record Runs (job sheet : List ℕ) (r : Result ℕ Full) (sheet' : List ℕ) : Type 0 where
  pub whole : (k : ℕ) → r ≡ Ok k → Sheet 0 start job (take k sheet')
  pub full : (f : Full) → r ≡ Err f → Cut job (length sheet) (take f.written sheet')
  pub within : written r ≤ length sheet
  pub long : length sheet' ≡ length sheet
  pub rest : drop (written r) sheet' ≡ drop (written r) sheet

-- on the way: the state is kept, and the lines so far begin or make the sheet; `lent` is the sheet as it was lent
pub record Running (job lent : List ℕ) (h : Held) (v m l : List ℕ) (at to : ℕ) (sheet : List ℕ) (phase : Phase) : Type 0 where
  pub kept : Kept h v m
  pub line_long : length l ≡ line_length
  pub inside : at ≤ length job
  pub room : to ≤ length sheet
  pub long : length sheet ≡ length lent
  pub rest : drop to sheet ≡ drop to lent
  pub going : phase ≡ phases.Going → Begins job at (state_of h v m) (take to sheet)
  pub closed : phase ≡ phases.Closed → Sheet 0 start job (take to sheet)
  pub full : phase ≡ phases.Full → Cut job (length lent) (take to sheet)
