-- `tables::rows::bottom` meets its contract: the bottom row with no division.
use mathlib.Core.Path.{sym}
use Rattle.tables.proofs.Spots.{bottom_low, bottom_high}
use Rattle.tables.proofs.rows.bottom.Goals as goal

pub returns-then-p-spot : goal.returns-then-p-spot
returns-then-p-spot c = sym (bottom_low c.args.t c.args.p c.args.spot.offset c.requires.0.within c.if-p-spot.true)

pub returns : goal.returns
returns c = sym (bottom_high c.args.t c.args.p c.args.spot.offset c.requires.1 c.if-p-spot.false)
