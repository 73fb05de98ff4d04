-- What one turn of a job does (01, "The job and its sheet").
-- Main definitions: turn_number, turn_used, turn_wrote, Stops, Same, Ends, Goes, Turns.
use Rattle.std.specs.Prelude.{◌≡◌, ◌≢◌, Bool, true, false, List, [], ℕ, get_or, Ok, Err, None}
use Rattle.refusals.specs.Refusals.{number_of, check_number, Check}
use Rattle.refusals.specs.declared.Refusal.{Refusal}
use Rattle.commands.specs.Commands.{size_of, parsed, parsed_check}
use Rattle.commands.specs.declared.Command.{Command}
use Rattle.commands.specs.declared.Parsed.TheVariants.{Whole, Unknown, Short, Nothing}
use Rattle.lines.specs.Lines.{line, end_word, Wrote}
use Rattle.state.specs.Refusing.{refusal_of}
use Rattle.act.specs.Acts.{state_of, Acts, Held}
use Rattle.turns.specs.Sheets.{refused_line}
use Rattle.turns.specs.declared.Turn.{Turn}
use Rattle.turns.specs.declared.Turn.TheVariants.{Wait, End, Stop, On, Bad}

-- before the first plan, over buffers of any content
abbrev pub unplanned : Held
unplanned = None

-- 01's number of a turn, and its values: the bytes of the job that it used, and those of the line that it wrote
abbrev pub turn_number : Turn → ℕ
turn_number Wait = 0
turn_number (End count) = 0
turn_number (Stop x count) = number_of x
turn_number (On size count) = 0
turn_number (Bad x) = number_of x

abbrev pub turn_used : Turn → ℕ
turn_used Wait = 0
turn_used (End count) = 0
turn_used (Stop x count) = 0
turn_used (On size count) = size
turn_used (Bad x) = 0

abbrev pub turn_wrote : Turn → ℕ
turn_wrote Wait = 0
turn_wrote (End count) = count
turn_wrote (Stop x count) = count
turn_wrote (On size count) = count
turn_wrote (Bad x) = 0

-- the job stops at what refuses it: the line `refused` was written, with the number of that and this offset
pub record Stops (c : Check) (offset : ℕ) (l : List ℕ) (turn : Turn) (l' : List ℕ) : Type 0 where
  pub refusal : Refusal
  pub at : c ≡ Err refusal
  pub count : ℕ
  pub stopped : turn ≡ Stop refusal count
  pub number : turn_number turn ≡ check_number c
  pub length : turn_wrote turn ≡ count
  pub wrote : Wrote l (refused_line c offset) l' count

-- nothing but the line may have changed
pub record Same (h : Held) (v m : List ℕ) (h' : Held) (v' m' : List ℕ) : Type 0 where
  pub held : h' ≡ h
  pub block : v' ≡ v
  pub marks : m' ≡ m

-- the job ends: the line `end` was written
pub record Ends (l : List ℕ) (turn : Turn) (l' : List ℕ) : Type 0 where
  pub count : ℕ
  pub ended : turn ≡ End count
  pub length : turn_wrote turn ≡ count
  pub wrote : Wrote l (line end_word []) l' count

-- the command was performed, its text was written, and these bytes of it were used; where the text is empty the line buffer is as before
pub record Goes (c : Command) (size : ℕ) (h : Held) (v m l : List ℕ) (turn : Turn) (h' : Held) (v' m' l' : List ℕ) : Type 0 where
  pub count : ℕ
  pub on : turn ≡ On size count
  pub used : turn_used turn ≡ size
  pub length : turn_wrote turn ≡ count
  pub text : List ℕ
  pub wrote : Wrote l text l' count
  pub acts : Acts c h v m text h' v' m'

-- A turn on a state that nothing refuses, by what stands at the front of the bytes b.
pub record Turns (h : Held) (v m l b : List ℕ) (last : Bool) (offset : ℕ) (turn : Turn) (h' : Held) (v' m' l' : List ℕ) : Type 0 where
  -- more bytes may come, and those at hand are none or end inside a command
  pub nothing_yet : parsed b ≡ Nothing → last ≡ false → (turn ≡ Wait) × Same h v m h' v' m' × (l' ≡ l)
  pub cut_yet : parsed b ≡ Short → last ≡ false → (turn ≡ Wait) × Same h v m h' v' m' × (l' ≡ l)
  -- "`end` closes a job that ran out at a command's boundary"
  pub ends : parsed b ≡ Nothing → last ≡ true → Ends l turn l' × Same h v m h' v' m'
  -- 7, "unknown first byte in a job"; 8, "the job ends inside a command"; then 9 and the others of the command
  pub unknown : parsed b ≡ Unknown → Stops (parsed_check Unknown) offset l turn l' × Same h v m h' v' m'
  pub short : parsed b ≡ Short → last ≡ true → Stops (parsed_check Short) offset l turn l' × Same h v m h' v' m'
  pub refused : (c : Command) → parsed b ≡ Whole c → refusal_of (state_of h v m) c ≢ (Ok tt) →
      Stops (refusal_of (state_of h v m) c) offset l turn l' × Same h v m h' v' m'
  -- otherwise the command is performed
  pub goes_on : (c : Command) → parsed b ≡ Whole c → refusal_of (state_of h v m) c ≡ Ok tt → Goes c (size_of (get_or b 0 0)) h v m l turn h' v' m' l'
