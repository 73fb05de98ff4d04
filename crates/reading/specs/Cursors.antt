-- A job read in parts: the bytes at hand in a buffer.
-- Main definitions: hand, at_start, carried_of, top_offset, reach_of.
use Rattle.std.specs.Prelude.{List, ℕ, ◌+◌, ◌-◌, ◌^◌, min, length, take, drop}
use Rattle.reading.specs.declared.Cursor.{Cursor}

-- the bytes at hand: those from `at` to `end` that the buffer has
unfoldable pub hand : Cursor → List ℕ → List ℕ
hand c buffer = take (c.end - c.at) (drop c.at buffer)

-- nothing is read yet
abbrev pub at_start : Cursor
at_start = record { at = 0; end = 0; offset = 0 }

-- the bytes at hand stand at the front
unfoldable pub carried_of : Cursor → List ℕ → Cursor
unfolding hand
carried_of c buffer = record { at = 0; end = length (hand c buffer); offset = c.offset }

-- the highest offset: no byte there or past it is used
abbrev pub top_offset : ℕ
top_offset = 2 ^ 64 - 1

-- how far the bytes at hand stand below it
abbrev pub reach_of : Cursor → ℕ
reach_of c = c.at + min (c.end - c.at) (top_offset - c.offset)
