-- Local arrays hold the tables.
use native.Mathlib.Omega.{arith}
use Rattle.parities.specs.Settling.{cut_arrays}
use Rattle.parities.proofs.fill_in.Goals as goal

pub cut-requires : goal.cut-requires
cut-requires g c = let a = cut_arrays {m = c.args.t} g.row.ROWS (c.requires.sealable, omega arith) c.requires.rows.0 in record { sealable = a.0; cut = a.1 }
