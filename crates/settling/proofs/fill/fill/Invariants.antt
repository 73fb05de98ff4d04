-- `fill::fill` meets its contract: before each turn the block has the first i values added. Assumes nothing.
use mathlib.Core.Path.{◌≡◌}
use Rattle.settling.specs.Fill.{filled}
use Rattle.settling.proofs.fill.fill.Given as goal

abbrev pub invariant-loop-i : goal.invariant-loop-i
invariant-loop-i l = l.block ≡ filled l.initial.block l.place l.value l.i
