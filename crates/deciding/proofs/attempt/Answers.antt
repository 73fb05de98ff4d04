-- What `note_marks` and `peel_marked` promise of the tables is what `finish` asks.
use mathlib.Core.Path.{◌∙◌}
use Rattle.deciding.specs.Attempts.{begins, attempt_peels, attempt_tried, given_after}
use Rattle.deciding.proofs.attempt.Goals as goal

pub note_marks-requires : goal.note_marks-requires
note_marks-requires c = record { lent = c.requires.given.marked; tally_value = c.requires.tables.tally_zeros }

pub peel_marked-k-requires : goal.peel_marked-k-requires
peel_marked-k-requires c = attempt_peels c.requires.given c.requires.tables (begins (λ i. (c.slice_known-1.given i).fits) c.requires.tables.sums c.note_marks.ensures)

pub finish-requires : goal.finish-requires
finish-requires c = record { given = given_after c.requires.given c.peel_marked-k.auto.queue; tried = (attempt_tried c.requires.given c.requires.tables (begins (λ i. (c.slice_known-1.given i).fits) c.requires.tables.sums c.note_marks.ensures) c.peel_marked-k.ensures, c.clean-whole.ensures) }

pub shape_of-block : goal.shape_of-block
shape_of-block c = c.finish.auto.block

pub shape_of-sum : goal.shape_of-sum
shape_of-sum c = c.finish.auto.sum ∙ c.peel_marked-k.auto.sum

pub shape_of-tally : goal.shape_of-tally
shape_of-tally c = c.finish.auto.tally ∙ c.peel_marked-k.auto.tally ∙ c.note_marks.auto.tally

pub shape_of-place : goal.shape_of-place
shape_of-place c = c.finish.auto.place ∙ c.peel_marked-k.auto.place

pub shape_of-value : goal.shape_of-value
shape_of-value c = c.finish.auto.value ∙ c.peel_marked-k.auto.value

pub shape_of-witness : goal.shape_of-witness
shape_of-witness c = c.finish.auto.witness ∙ c.peel_marked-k.auto.queue

pub returns : goal.returns
returns c = c.finish.ensures
