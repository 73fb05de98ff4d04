-- `gather` meets its contract. The loop's invariant: the runs of the sections passed are at the front of the message. Assumes nothing.
use Prim.Native.Nat.{◌*◌}
use Rattle.runs.specs.Laws.Copying.{Gathering}
use Rattle.runs.proofs.gather.Given as goal

abbrev pub invariant-loop-j : goal.invariant-loop-j
invariant-loop-j l = Gathering l.n l.t l.runs l.block l.fn.message (l.j * l.t) l.done l.j l.message
