-- A read that was asked for.
use mathlib.Core.Path.{sym, ◌∙◌}
use Rattle.stream.proofs.WorksLaws.{taken_filled, taken_last, taken_goes, taken_over, over_closed, over_past, over_lost}
use borrow.Author.Rules.{rules}
use Rattle.streaming.proofs.taken.Goals as goal

pub lost-requires : goal.lost-requires
lost-requires c = search rules

pub returns-then-stream-gt0 : goal.returns-then-stream-gt0
returns-then-stream-gt0 c = c.lost.ensures ∙ sym (taken_filled _ _ c.if-stream-gt0.true)

pub lost-requires-then-stream : goal.lost-requires-then-stream
lost-requires-then-stream c = search rules

pub returns-then-stream : goal.returns-then-stream
returns-then-stream c = c.lost-then-stream.ensures ∙ sym (taken_last _ _ c.if-stream.true)

pub enum_told-1 : goal.enum_told-1
enum_told-1 c = search rules

pub read_on-requires : goal.read_on-requires
read_on-requires c = search rules

pub enum_told-in-Closed : goal.enum_told-in-Closed
enum_told-in-Closed c = search rules

pub lost-requires-in-Closed : goal.lost-requires-in-Closed
lost-requires-in-Closed c = search rules

pub enum_told-in-Past : goal.enum_told-in-Past
enum_told-in-Past c = search rules

pub lost-requires-in-Past : goal.lost-requires-in-Past
lost-requires-in-Past c = search rules

pub enum_told-in-Lost : goal.enum_told-in-Lost
enum_told-in-Lost c = search rules

pub lost-requires-in-Lost : goal.lost-requires-in-Lost
lost-requires-in-Lost c = search rules

pub returns-in-Going : goal.returns-in-Going
returns-in-Going c = c.read_on.ensures ∙ sym (taken_goes _ _ c.if-stream-gt0.false c.if-stream.false c.in-Going.is)

pub returns-in-Closed : goal.returns-in-Closed
returns-in-Closed c = c.lost-in-Closed.ensures ∙ sym (taken_over _ _ (over_closed c.in-Closed.is))

pub returns-in-Past : goal.returns-in-Past
returns-in-Past c = c.lost-in-Past.ensures ∙ sym (taken_over _ _ (over_past c.in-Past.is))

pub returns-in-Lost : goal.returns-in-Lost
returns-in-Lost c = c.lost-in-Lost.ensures ∙ sym (taken_over _ _ (over_lost c.in-Lost.is))
