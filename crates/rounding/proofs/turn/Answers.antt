-- `turn` meets its contract. Assumes nothing.
use native.Mathlib.Omega.{arith}
use Rattle.tables.specs.Picture.{counts}
use Rattle.queue.specs.RowQueue.{head_long}
use Rattle.rounding.specs.OneRow.{head_tally, turned_over, head_one, turn_room, turn_some, turned}
use Rattle.rounding.proofs.turn.Goals as goal

pub row_at-row-requires : goal.row_at-row-requires
row_at-row-requires c = head_long c.requires.ready.rows c.requires.i_lt_tail

pub bounds-tally-r : goal.bounds-tally-r
bounds-tally-r c = head_tally c.requires.ready c.requires.i_lt_tail c.row_at-row.ensures

pub returns-then-tally-r-ne1 : goal.returns-then-tally-r-ne1
unfolding counts
returns-then-tally-r-ne1 c = turned_over c.requires.ready c.requires.i_lt_tail c.row_at-row.ensures c.if-tally-r-ne1.true

pub settle-s-requires : goal.settle-s-requires
unfolding counts
settle-s-requires c = head_one c.requires.ready c.requires.i_lt_tail c.row_at-row.ensures c.if-tally-r-ne1.false

pub enter-longer-requires : goal.enter-longer-requires
enter-longer-requires c = turn_room c.requires.ready c.requires.i_lt_tail c.row_at-row.ensures c.settle-s.ensures.takes c.settle-s.ensures.rest_value

pub overflow_sub-result : goal.overflow_sub-result
overflow_sub-result c = omega (arith, turn_some c.requires.ready c.requires.i_lt_tail c.row_at-row.ensures c.settle-s.ensures.takes)

pub returns : goal.returns
unfolding counts
returns c = turned c.requires.ready c.requires.i_lt_tail c.row_at-row.ensures c.settle-s.ensures.takes c.if-tally-r-ne1.false c.settle-s.ensures.rest_value c.enter-longer.ensures c.enter-longer.auto.queue
