use native.Mathlib.Omega.{arith}
use Rattle.tables.proofs.Spots.{reached_on}
use Rattle.tables.proofs.Scan.{words_end}
use Rattle.starts.specs.Starts.{starting_none, starting_at, starting_clear, starting_end, append_room}
use Rattle.starts.proofs.seed_scattered.Goals as goal

pub loop-i-init : goal.loop-i-init
loop-i-init c = (starting_clear c.pass_zeros-i.ensures.0 (starting_none c.requires), reached_on _ (omega arith) c.start-at.ensures)

pub loop-i-preserved : goal.loop-i-preserved
loop-i-preserved c = (
  starting_clear c.pass_zeros-i-in-loop-i.ensures.0 (starting_at (omega arith) c.enter_word-next.ensures.starting_2),
  reached_on _ (omega (arith, c.pass_zeros-i-in-loop-i.ensures.0.order)) c.enter_word-next.ensures.reached_2,
)

pub append-requires : goal.append-requires
append-requires c = append_room c.loop-i.invariant.0

pub overflow_add-result : goal.overflow_add-result
overflow_add-result c = omega (arith, (append_room c.loop-i.invariant.0).0, c.loop-i.invariant.0.startable.queue_long, c.requires.lent.good.t_max)

pub returns : goal.returns
returns c = starting_end c.loop-i.invariant.0 (words_end c.requires.lent c.loop-i.i c.loop-i-test.false) c.append.ensures
