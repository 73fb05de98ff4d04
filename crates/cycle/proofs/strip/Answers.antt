-- Peeling what is pictured from c on: `peel` promises what `stripped` asks.
use mathlib.Core.Path.{◌∙◌}
use Rattle.cycle.specs.Shows.{peelable, stripped}
use Rattle.cycle.proofs.strip.Goals as goal

pub picture_from-requires : goal.picture_from-requires
picture_from-requires c = let room = c.requires.room.0 in record { closing = c.requires.closing; sum_len = (room.sum_long, room.tally_long) }

pub peel-requires : goal.peel-requires
peel-requires c = let room = c.requires.room.0 in peelable c.requires.closing c.picture_from.ensures c.requires.room.1 room.place_long room.value_long

pub shape_of-sum : goal.shape_of-sum
shape_of-sum c = c.peel.auto.sum ∙ c.picture_from.auto.sum

pub shape_of-tally : goal.shape_of-tally
shape_of-tally c = c.peel.auto.tally ∙ c.picture_from.auto.tally

pub shape_of-queue : goal.shape_of-queue
shape_of-queue c = c.peel.auto.queue

pub shape_of-place : goal.shape_of-place
shape_of-place c = c.peel.auto.place

pub shape_of-value : goal.shape_of-value
shape_of-value c = c.peel.auto.value

pub returns : goal.returns
returns c = stripped c.requires.closing c.picture_from.ensures c.peel.ensures
