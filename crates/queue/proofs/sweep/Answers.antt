use mathlib.Core.Path.{refl, ◌∙◌}
use Prim.Native.Nat.{◌/◌}
use native.Mathlib.Omega.{arith}
use lib.ListN.{get_or}
use Rattle.tables.specs.Picture.{tally_unit, counts}
use Rattle.queue.specs.Queue.{sweep_room, sweep_more, flag_le}
use Rattle.queue.proofs.sweep.Goals as goal

pub put_row-requires : goal.put_row-requires
put_row-requires c = sweep_room c.loop-r.invariant.0 (omega arith)

pub overflow_add-end : goal.overflow_add-end
overflow_add-end c = omega (arith, sweep_room c.loop-r.invariant.0 (omega arith), flag_le (get_or c.args.tally.now c.loop-r.r 0 / tally_unit))

pub loop-r-preserved : goal.loop-r-preserved
unfolding counts
loop-r-preserved c = (rw c.from-end.ensures (sweep_more c.loop-r.invariant.0 (omega arith) c.put_row.ensures refl), c.put_row.auto.list ∙ c.loop-r.invariant.1)
