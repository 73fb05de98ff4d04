-- A job that is read in parts: how far it has come, what refuses it, and what is wanted.
-- Main definitions: opened_at, stream_fits, stream_check, ask_of, ask_number, tidy, tidy_input, written_of, brought_of.
use Rattle.std.specs.Prelude.{Bool, true, false, cond, ◌&&◌, not, List, ◌++◌, ℕ, ◌+◌, ◌-◌, eqb, leb, ltb, ℤ, pos, length, drop}
use Rattle.std.specs.Int.Signed.{lt_z}
use Rattle.io.specs.Counts.{clamp_len}
use Rattle.refusals.specs.Refusals.{number_of, Check}
use Rattle.commands.specs.Commands.{longest}
use Rattle.lines.specs.Lines.{line_length}
use Rattle.act.specs.Acts.{block_length, marks_length, Held}
use Rattle.turns.specs.Turns.{unplanned}
use Rattle.standing.specs.Standing.{state_check}
use Rattle.reading.specs.Cursors.{hand, at_start, carried_of}
use Rattle.reading.specs.declared.Cursor.{Cursor}
use Rattle.stream.specs.declared.Stream.{Stream}
use Rattle.stream.specs.declared.Phase.{Phase}
use Rattle.stream.specs.declared.Phase.TheVariants as phase
use Rattle.stream.specs.declared.Halt.{Halt}
use Rattle.stream.specs.declared.Halt.TheVariants as halts
use Rattle.stream.specs.declared.Ask.{Ask}
use Rattle.stream.specs.declared.Ask.TheVariants as ask

-- a job begins: no plan, nothing read, nothing on the sheet
abbrev pub opened_at : Stream
opened_at = record { held = unplanned; cursor = at_start; filled = 0; phase = phase.Going; last = false }

-- block and marks have their lengths, the sheet has room for the longest line and the input for the longest command; what is at hand and what waits stand in them
unfoldable pub stream_fits : ℕ → ℕ → ℕ → ℕ → ℕ → ℕ → ℕ → Bool
stream_fits at end filled block marks sheet input =
    eqb block block_length && eqb marks marks_length && leb line_length sheet && leb longest input && leb at end && leb end input && leb filled sheet

-- what refuses the lent state: 1 and 2 by the plan, then 3, then 4
unfoldable pub stream_check : Stream → List ℕ → List ℕ → List ℕ → List ℕ → Check
unfolding stream_fits state_check
stream_check s v m l i = state_check s.held (stream_fits s.cursor.at s.cursor.end s.filled (length v) (length m) (length l) (length i)) m

-- ---- what is wanted

unfoldable pub phase_ask : Phase → Ask
phase_ask phase.Going = ask.Read
phase_ask phase.Closed = ask.Closed
phase_ask phase.Past = ask.Past
phase_ask phase.Lost = ask.Lost

-- what waits is written first
unfoldable pub ask_of : Stream → Ask
unfolding phase_ask
ask_of s = cond (ltb 0 s.filled) ask.Write (phase_ask s.phase)

-- 01's number of the answer
abbrev pub ask_number : Ask → ℕ
ask_number ask.Read = 0
ask_number ask.Write = 0
ask_number ask.Closed = 0
ask_number ask.Past = 0
ask_number ask.Lost = 0
ask_number (ask.Bad x) = number_of x

unfoldable pub goes : Phase → Bool
goes phase.Going = true
goes phase.Closed = false
goes phase.Past = false
goes phase.Lost = false

-- more input is wanted
unfoldable pub asks_read : Stream → Bool
unfolding goes
asks_read s = not (ltb 0 s.filled) && goes s.phase

abbrev pub with_cursor : Stream → Cursor → Stream
with_cursor s c = record { held = s.held; cursor = c; filled = s.filled; phase = s.phase; last = s.last }

-- before a read the bytes at hand stand at the front of the input, so that there is room behind them
unfoldable pub tidy : Stream → List ℕ → Stream
unfolding asks_read carried_of
tidy s i = cond (asks_read s) (with_cursor s (carried_of s.cursor i)) s

unfoldable pub tidy_input : Stream → List ℕ → List ℕ
unfolding asks_read hand
tidy_input s i = cond (asks_read s) (hand s.cursor i ++ drop (length (hand s.cursor i)) i) i

-- ---- after some commands

-- more bytes that are wanted stand past the highest offset if the bytes at hand were cut there
unfoldable pub phase_after : Halt → Bool → Phase
phase_after halts.Closed cut = phase.Closed
phase_after halts.Input true = phase.Past
phase_after halts.Input false = phase.Going
phase_after halts.On cut = phase.Going
phase_after halts.Room cut = phase.Going

-- `used` of the bytes at hand are used, and the sheet is filled up to `to`
unfoldable pub moved_of : Stream → Held → ℕ → ℕ → Halt → Bool → Stream
unfolding phase_after
moved_of s h used to halt cut = record {
  held = h;
  cursor = record { at = s.cursor.at + used; end = s.cursor.end; offset = s.cursor.offset + used };
  filled = to;
  phase = phase_after halt cut;
  last = s.last;
}

-- ---- what a read brought, what a write did

-- nothing more is read or written: the sheet is incomplete
abbrev pub lost_of : Stream → Stream
lost_of s = record { held = s.held; cursor = s.cursor; filled = 0; phase = phase.Lost; last = s.last }

-- what waited was written, or could not be
unfoldable pub written_of : Stream → Bool → Stream
written_of s true = record { held = s.held; cursor = s.cursor; filled = 0; phase = s.phase; last = s.last }
written_of s false = lost_of s

-- n bytes were read behind those at hand; none: the input has ended
abbrev pub read_of : Stream → ℕ → Stream
read_of s n = record { held = s.held; cursor = record { at = s.cursor.at; end = s.cursor.end + n; offset = s.cursor.offset }; filled = s.filled; phase = s.phase; last = eqb n 0 }

-- a read that was not asked for, or one behind the end of the input, is an error
unfoldable pub taken_of : Stream → ℕ → Stream
unfolding asks_read
taken_of s n = cond (asks_read s && not s.last) (read_of s n) (lost_of s)

-- what the read answered: a negative number is an error, and so is a read that had no room, whose 0 is not the end of the input; no read brings more than there was room for
unfoldable pub brought_of : Stream → List ℕ → ℤ → Stream
unfolding taken_of
brought_of s i got =
    cond (lt_z got (pos 0)) (lost_of s) (cond (ltb s.cursor.end (length i)) (taken_of s (clamp_len got (length i - s.cursor.end))) (lost_of s))
