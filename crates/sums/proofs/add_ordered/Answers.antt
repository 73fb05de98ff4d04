-- `sums::add_ordered` meets its contract: the three parts together are the two sections turned.
use mathlib.Core.Path.{refl}
use Rattle.sums.specs.SumLaws.{turned_pair}
use Rattle.sums.proofs.add_ordered.Goals as goal

pub returns : goal.returns
returns c = turned_pair c.args.t c.args.p c.args.q c.args.a.now c.args.b.now _ _ _ _ _ _ _ _ _ _ _ _ _ c.requires.0 c.requires.1 c.requires.4 refl refl refl c.xor_two.ensures refl refl refl c.xor_two-2.ensures refl refl refl c.xor_two-3.ensures
