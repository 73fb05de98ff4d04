-- `low_bits` meets its contract: the bits above are shifted out. Assumes nothing.
use native.Mathlib.Omega.{arith}
use Rattle.stretches.specs.StretchLaws.{low_bits}
use Rattle.stretches.proofs.low_bits.Goals as goal

pub returns : goal.returns
returns c = low_bits c.args.x c.args.k (omega arith)
