-- A local array holds the sums.
use native.Mathlib.Omega.{arith}
use Rattle.tables.specs.Zeros.{zeros_of}
use Rattle.sealing.proofs.clean_in.Goals as goal

pub rows_clean-requires : goal.rows_clean-requires
rows_clean-requires g c = let z = zeros_of {m = c.args.t} g.row.ROWS (c.requires.good_plan, omega arith) c.requires.rows.0 in record { good_plan = z.0; zeros = z.1 }
