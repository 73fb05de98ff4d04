-- The fields one by one.
use Rattle.stream.specs.Streams.{moved_of}
use borrow.Author.Rules.{rules}
use Rattle.streaming.proofs.moved.Goals as goal

pub overflow_add-cursor : goal.overflow_add-cursor
overflow_add-cursor c = search rules

pub overflow_add-cursor-2 : goal.overflow_add-cursor-2
overflow_add-cursor-2 c = search rules

pub phase_after-requires : goal.phase_after-requires
phase_after-requires c = search rules

pub returns : goal.returns
unfolding moved_of
returns c = rw c.phase_after.ensures
