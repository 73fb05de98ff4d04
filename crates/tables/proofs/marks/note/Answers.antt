-- `tables::marks::note` meets its contract: two stores, at the top row and then at the bottom row.
use mathlib.Core.Path.{◌∙◌}
use Rattle.tables.proofs.Counting.{ready_bottom, room_bottom}
use Rattle.tables.proofs.marks.note.Goals as goal

pub put_in-requires-2 : goal.put_in-requires-2
put_in-requires-2 c = (
  ready_bottom c.requires c.bottom-low.ensures (c.put_in.auto.tally ∙ c.requires.long),
  room_bottom c.requires c.top-high.ensures c.bottom-low.ensures c.weight-w.ensures c.put_in.ensures,
)
