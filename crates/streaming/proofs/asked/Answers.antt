-- What waits is written first; before a read the bytes at hand are carried to the front.
use mathlib.Core.Path.{refl, ◌∙◌, ap}
use borrow.Author.Tests.{lt-ltb, le-ltb}
use Rattle.stream.specs.Streams.{ask_of, with_cursor, tidy, tidy_input, asks_read, phase_ask, goes}
use borrow.Author.Rules.{rules}
use Rattle.streaming.proofs.asked.Goals as goal

pub returns-then-stream-gt0 : goal.returns-then-stream-gt0
unfolding ask_of tidy tidy_input asks_read phase_ask goes
returns-then-stream-gt0 c = rw (lt-ltb 0 _ c.if-stream-gt0.true) (refl, refl, refl)

pub enum_told-1 : goal.enum_told-1
enum_told-1 c = search rules

pub carry-cursor-requires : goal.carry-cursor-requires
carry-cursor-requires c = search rules

pub with_cursor-requires : goal.with_cursor-requires
with_cursor-requires c = search rules

pub enum_told-in-Closed : goal.enum_told-in-Closed
enum_told-in-Closed c = search rules

pub enum_told-in-Past : goal.enum_told-in-Past
enum_told-in-Past c = search rules

pub enum_told-in-Lost : goal.enum_told-in-Lost
enum_told-in-Lost c = search rules

pub shape_of-input : goal.shape_of-input
shape_of-input c = search rules

pub returns-in-Going : goal.returns-in-Going
unfolding ask_of tidy tidy_input asks_read phase_ask goes
returns-in-Going c = let t = le-ltb 0 _ c.if-stream-gt0.false in let g = c.in-Going.is in (rw (t, g), c.with_cursor.ensures ∙ ap (with_cursor c.args.stream) c.carry-cursor.ensures.0 ∙ rw (t, g), c.carry-cursor.ensures.1 ∙ rw (t, g))

pub returns-in-Closed : goal.returns-in-Closed
unfolding ask_of tidy tidy_input asks_read phase_ask goes
returns-in-Closed c = rw (le-ltb 0 _ c.if-stream-gt0.false, c.in-Closed.is) (refl, refl, refl)

pub returns-in-Past : goal.returns-in-Past
unfolding ask_of tidy tidy_input asks_read phase_ask goes
returns-in-Past c = rw (le-ltb 0 _ c.if-stream-gt0.false, c.in-Past.is) (refl, refl, refl)

pub returns-in-Lost : goal.returns-in-Lost
unfolding ask_of tidy tidy_input asks_read phase_ask goes
returns-in-Lost c = rw (le-ltb 0 _ c.if-stream-gt0.false, c.in-Lost.is) (refl, refl, refl)
