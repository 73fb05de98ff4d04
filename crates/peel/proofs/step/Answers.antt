-- `step` meets its contract. Assumes nothing.
use mathlib.Core.Path.{refl}
use Rattle.tables.specs.Picture.{counts}
use Rattle.peel.specs.Peels.{head_long, head_tally, head_one, steps_over, count_long, rest_room, steps}
use Rattle.peel.proofs.step.Goals as goal

pub row_at-row-requires : goal.row_at-row-requires
row_at-row-requires g c = head_long c.requires.ready c.requires.head_lt_tail

pub bounds-tally-r : goal.bounds-tally-r
bounds-tally-r g c = head_tally c.requires.ready c.requires.head_lt_tail c.row_at-row.ensures

pub returns-then-tally-r-ne1 : goal.returns-then-tally-r-ne1
unfolding counts
returns-then-tally-r-ne1 g c = steps_over c.requires.ready c.requires.head_lt_tail c.row_at-row.ensures c.if-tally-r-ne1.true

pub settle-s-requires : goal.settle-s-requires
unfolding counts
settle-s-requires g c = head_one c.requires.ready c.requires.head_lt_tail c.row_at-row.ensures c.if-tally-r-ne1.false

pub enter-longer-requires : goal.enter-longer-requires
enter-longer-requires g c = rest_room c.requires.ready c.requires.head_lt_tail c.row_at-row.ensures c.settle-s.ensures.takes c.settle-s.ensures.rest_value

pub put_place-requires : goal.put_place-requires
put_place-requires g c = (count_long c.requires.ready c.requires.head_lt_tail).0

pub bounds-value-count : goal.bounds-value-count
bounds-value-count g c = (count_long c.requires.ready c.requires.head_lt_tail).1

pub returns : goal.returns
returns g c = steps c.requires.ready c.requires.head_lt_tail c.row_at-row.ensures c.settle-s.ensures.takes c.settle-s.ensures.rest_value c.enter-longer.ensures c.enter-longer.auto.queue c.put_place.ensures refl
