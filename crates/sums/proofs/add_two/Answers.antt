-- `sums::add_two` meets its contract: the sections in either order.
use Rattle.sums.specs.SumLaws.{turned_swapped}
use Rattle.sums.proofs.add_two.Goals as goal

pub returns : goal.returns
returns c = turned_swapped c.args.t c.args.p c.args.q c.args.a.now c.args.b.now c.add_ordered-2.ensures
