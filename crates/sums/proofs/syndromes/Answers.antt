-- `sums::syndromes` meets its contract: the top rows and the bottom rows together.
use mathlib.Core.Path.{refl}
use Rattle.sums.specs.SumLaws.{both_halves}
use Rattle.sums.proofs.syndromes.Goals as goal

pub returns : goal.returns
returns c = both_halves c.args.n c.args.t c.args.shifts.now c.args.block.now c.args.sum.now _ _ _ _ c.requires.0 c.requires.2 refl c.add_tops.ensures refl c.add_bottoms.ensures
