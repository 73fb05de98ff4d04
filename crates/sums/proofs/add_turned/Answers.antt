-- `sums::add_turned` meets its contract: the two parts together are the section turned.
use mathlib.Core.Path.{refl}
use Rattle.sums.specs.SumLaws.{turned_parts}
use Rattle.sums.proofs.add_turned.Goals as goal

pub returns : goal.returns
returns c = turned_parts c.args.t c.args.p _ _ _ _ _ _ _ _ c.requires.0 c.requires.2 refl refl refl c.xor_into.ensures refl c.xor_into-2.ensures
