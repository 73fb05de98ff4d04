-- Local arrays hold the tables.
use native.Mathlib.Omega.{arith}
use Rattle.deciding.specs.Attempts.{sum_array, cut_arrays, given_intact}
use Rattle.recovery.proofs.decide_in.Goals as goal

pub intact-requires : goal.intact-requires
intact-requires g c = let a = sum_array {m = c.args.t} g.row.ROWS (c.requires.given, omega arith) c.requires.rows.0 in record { lent = a.0; zeros = a.1 }

pub returns-then-intact : goal.returns-then-intact
returns-then-intact g c = given_intact c.requires.given c.intact.ensures.1 c.if-intact.true c.recovered.ensures

pub cut-requires : goal.cut-requires
cut-requires g c = let a = cut_arrays {m = c.args.t} g.row.ROWS (c.requires.given, omega arith) c.requires.rows.0 c.intact.ensures.0 in record { given = a.0; cut = a.1 }
