-- `tables::rows::beside` meets its contract: of each half, with and without a turn.
use native.Mathlib.Omega.{arith}
use Rattle.tables.proofs.Beside.{beside_high, beside_low, beside_early, beside_late}
use Rattle.tables.proofs.rows.beside.Goals as goal

pub returns-then-turned-t : goal.returns-then-turned-t
returns-then-turned-t c = beside_early c.requires.0 c.if-t-row.true c.if-turned-t.true

pub returns-then-t-row : goal.returns-then-t-row
returns-then-t-row c = beside_late c.requires.0 c.if-t-row.true c.requires.1 (omega (arith, c.if-turned-t.false))

pub returns-then-turned-t-2 : goal.returns-then-turned-t-2
returns-then-turned-t-2 c = beside_high c.requires.0 (omega (arith, c.if-t-row.false)) c.if-turned-t-2.true

pub returns : goal.returns
returns c = beside_low c.requires.0 (omega (arith, c.if-t-row.false)) (omega (arith, c.if-turned-t-2.false))
