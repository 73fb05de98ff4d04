-- `finish` meets its contract: one byte more. Assumes nothing.
use native.Mathlib.Omega.{arith}
use Rattle.pieces.specs.PiecesLaws.{appends_byte}
use Rattle.pieces.proofs.finish.Goals as goal

pub returns : goal.returns
returns c = appends_byte _ _ _ (omega arith)
