-- Commands performed one after another until something is wanted.
-- Main definitions: halt_of, Waits, Closes, Course.
use Rattle.std.specs.Prelude.{◌≡◌, ◌⊎◌, ◌≢◌, Bool, true, false, List, [], ◌++◌, ℕ, ◌+◌, ◌≤◌, ◌<◌, length, drop, Ok}
use Rattle.pieces.specs.Pieces.{Appends}
use Rattle.commands.specs.Commands.{parsed}
use Rattle.commands.specs.declared.Command.{Command}
use Rattle.commands.specs.declared.Parsed.TheVariants.{Whole, Nothing, Short}
use Rattle.lines.specs.Lines.{line_length}
use Rattle.state.specs.State.{State}
use Rattle.state.specs.Refusing.{refusal_of}
use Rattle.act.specs.Acts.{state_of, Kept, Held}
use Rattle.turns.specs.Sheets.{Sheet}
use Rattle.turns.specs.declared.Turn.{Turn}
use Rattle.turns.specs.declared.Turn.TheVariants.{Wait, End, Stop, On, Bad}
use Rattle.one_sheet.specs.Performed.{Performed}
use Rattle.stream.specs.declared.Halt.{Halt}
use Rattle.stream.specs.declared.Halt.TheVariants as halts

-- what is wanted after a turn. (Room on the sheet is asked for before a turn.)
abbrev pub halt_of : Turn → Halt
halt_of Wait = halts.Input
halt_of (End count) = halts.Closed
halt_of (Stop x count) = halts.Closed
halt_of (On size count) = halts.On
halt_of (Bad x) = halts.Closed

-- no command stands whole at the front of the bytes, nor an unknown one
abbrev pub Waits : List ℕ → Type 0
Waits b = (parsed b ≡ Nothing) ⊎ (parsed b ≡ Short)

-- this line closes the sheet from an offset and a state on, of which no command goes on: whatever bytes come later, or where none come with the last ones at hand
pub record Closes (last : Bool) (o : ℕ) (s : State) (b said : List ℕ) : Type 0 where
  pub none_goes : (c : Command) → parsed b ≡ Whole c → refusal_of s c ≢ (Ok tt)
  pub sheet : (later : List ℕ) → (last ≡ true → later ≡ []) → Sheet o s (b ++ later) said

-- From index at of the bytes b to at' commands were performed one after another, and `text` is what they wrote; where the job is closed then, `said` is the line that closes it.
-- Both stand on the sheet behind what was there, and what stands past them is kept. o: the offset of b's first byte in the job.
pub record Course (b : List ℕ) (last : Bool) (o : ℕ) (h : Held) (v m : List ℕ) (at : ℕ) (l : List ℕ) (to : ℕ) (h' : Held) (v' m' : List ℕ) (at' : ℕ) (l' : List ℕ) (to' : ℕ) (halt : Halt) : Type 0 where
  pub text : List ℕ
  pub said : List ℕ
  pub performed : Performed b h v m at text h' v' m' at'
  pub wrote : Appends l to (text ++ said) l' to'
  pub kept : Kept h' v' m'
  pub forwards : at ≤ at'
  pub inside : at' ≤ length b
  pub room : to' ≤ length l
  -- more bytes are wanted where they may come and no command is left whole
  pub input : halt ≡ halts.Input → (last ≡ false) × Waits (drop at' b)
  -- room is wanted where the longest line does not fit
  pub full : halt ≡ halts.Room → length l < to' + line_length
  pub closed : halt ≡ halts.Closed → Closes last (o + at') (state_of h' v' m') (drop at' b) said
  pub quiet : (halt ≡ halts.Closed → ⊥) → said ≡ []
