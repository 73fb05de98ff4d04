-- `spread` meets its contract. The loop's invariant: the sections passed hold their runs of the message, and zeros. Assumes nothing.
use Prim.Native.Nat.{◌*◌}
use Rattle.runs.specs.Laws.Copying.{Filling}
use Rattle.runs.proofs.spread.Given as goal

abbrev pub invariant-loop-j : goal.invariant-loop-j
invariant-loop-j l = Filling l.n l.t l.runs l.message l.fn.block (l.j * l.t) l.done l.j l.block
