-- `put_number` meets its contract: the space, then the digits. Assumes nothing.
use native.Mathlib.Omega.{arith}
use lib.ListN.{length-set}
use Rattle.pieces.specs.PiecesLaws.{appends_both, appends_byte}
use Rattle.pieces.proofs.put_number.Goals as goal

pub put_short-requires : goal.put_short-requires
put_short-requires c = record { n_bound = omega arith; n_in_bounds = simp length-set (omega arith) }

pub returns-then-n-lt100000 : goal.returns-then-n-lt100000
returns-then-n-lt100000 c = appends_both (appends_byte c.args.line.now c.args.at 32 (omega arith)) c.put_short.ensures

pub shape_of-line-then-n-lt100000 : goal.shape_of-line-then-n-lt100000
shape_of-line-then-n-lt100000 c = (returns-then-n-lt100000 c).long

pub put_long-requires : goal.put_long-requires
put_long-requires c = simp length-set (omega arith)

pub returns : goal.returns
returns c = appends_both (appends_byte c.args.line.now c.args.at 32 (omega arith)) c.put_long.ensures

pub shape_of-line : goal.shape_of-line
shape_of-line c = (returns c).long
