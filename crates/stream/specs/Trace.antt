-- A program that does what it is asked, over any sequence of calls, reads and writes.
-- Main definitions: Filled, ended_by, Trace; Later, Stands, Roomy, of which the theorems speak.
use Rattle.std.specs.Prelude.{◌≡◌, ◌≢◌, Bool, true, false, List, [], ◌++◌, ℕ, zero, suc, ◌-◌, ◌≤◌, ◌<◌, ℤ, pos, negsuc, length, take, drop, Ok}
use Rattle.io.specs.Counts.{clamp_len}
use Rattle.commands.specs.Commands.{longest, parsed}
use Rattle.commands.specs.declared.Command.{Command}
use Rattle.commands.specs.declared.Parsed.TheVariants.{Whole}
use Rattle.state.specs.Refusing.{refusal_of}
use Rattle.act.specs.Acts.{state_of}
use Rattle.one_sheet.specs.Begins.{Begins}
use Rattle.stream.specs.Streams.{opened_at, ask_of, written_of, brought_of}
use Rattle.stream.specs.Works.{Works, below}
use Rattle.stream.specs.declared.Stream.{Stream}
use Rattle.stream.specs.declared.Ask.{Ask}
use Rattle.stream.specs.declared.Ask.TheVariants as ask

-- a read into the room behind the bytes at hand put `part` there; of what stands behind it nothing is known
pub record Filled (s : Stream) (i : List ℕ) (got : ℤ) (part i' : List ℕ) : Type 0 where
  pub count : length part ≡ clamp_len got (length i' - s.cursor.end)
  pub past : List ℕ
  pub stands : i' ≡ take s.cursor.end i ++ (part ++ past)
  pub long : length i' ≡ length i

-- a read that had room and answered 0 has met the end of the input
abbrev pub ended_by : Bool → ℕ → ℤ → Bool
ended_by ended zero got = ended
ended_by ended (suc room) (pos zero) = true
ended_by ended (suc room) (pos (suc k)) = ended
ended_by ended (suc room) (negsuc k) = ended

-- What a program has read (job), whether it has met the end of the input, what it has written (out), and how far the stream and the buffers have come.
-- It calls work, writes what waits, and reads where that is asked for; a write may fail half way.
pub data Trace : List ℕ → Bool → List ℕ → Stream → List ℕ → List ℕ → List ℕ → List ℕ → Type 0 where
  opens : {v m l i : List ℕ} → Trace [] false [] opened_at v m l i
  works : {job : List ℕ} {ended : Bool} {out : List ℕ} {s : Stream} {v m l i : List ℕ} (a : Ask) (s' : Stream) (v' m' l' i' : List ℕ) → Trace job ended out s v m l i →
      Works s v m l i a s' v' m' l' i' → Trace job ended out s' v' m' l' i'
  writes : {job : List ℕ} {ended : Bool} {out : List ℕ} {s : Stream} {v m l i : List ℕ} → Trace job ended out s v m l i → Trace job ended (out ++ take s.filled l) (written_of s true) v m l i
  writes_some : {job : List ℕ} {ended : Bool} {out : List ℕ} {s : Stream} {v m l i : List ℕ} (k : ℕ) → k ≤ s.filled → Trace job ended out s v m l i →
      Trace job ended (out ++ take k l) (written_of s false) v m l i
  reads : {job : List ℕ} {ended : Bool} {out : List ℕ} {s : Stream} {v m l i : List ℕ} (got : ℤ) (part i' : List ℕ) → ask_of s ≡ ask.Read → Filled s i got part i' → Trace job ended out s v m l i →
      Trace (job ++ part) (ended_by ended (length i - s.cursor.end) got) out (brought_of s i' got) v m l i'

-- the bytes that come later: none where the input has ended
abbrev pub Later : Bool → List ℕ → Type 0
Later ended later = ended ≡ true → later ≡ []

-- the state that a job was closed in: the commands before its offset were performed, and none goes on from there
pub record Stands (job : List ℕ) (s : Stream) (v m : List ℕ) : Type 0 where
  pub text : List ℕ
  pub begins : Begins job s.cursor.offset (state_of s.held v m) text
  pub none_goes : (c : Command) → parsed (below s.cursor.offset (drop s.cursor.offset job)) ≡ Whole c → refusal_of (state_of s.held v m) c ≢ (Ok tt)

-- after "more input" nothing waits, the input has not ended, and less than the longest command is at hand (at most five bytes), which stands at the front of the input
pub record Roomy (s : Stream) (i : List ℕ) : Type 0 where
  pub written : s.filled ≡ 0
  pub more : s.last ≡ false
  pub front : s.cursor.at ≡ 0
  pub few : s.cursor.end < longest
  pub room : s.cursor.end < length i
