-- `of_good` meets its contract. Assumes nothing.
use Rattle.figures.proofs.AnswersLaws.{pair_asks, near_asks, pair_least, near_least, figures_are}
use Rattle.figures.proofs.of_good.Goals as goal

pub figure-pair-requires : goal.figure-pair-requires
figure-pair-requires c = pair_asks c.requires c.of_pairs-all.ensures

pub figure-neighbour-requires : goal.figure-neighbour-requires
figure-neighbour-requires c = near_asks c.requires c.of_neighbours-near.ensures

pub distance-requires : goal.distance-requires
distance-requires c =
    let u = c.requires in
    (u, pair_least u c.of_pairs-all.ensures c.figure-pair.ensures)

pub returns : goal.returns
returns c =
    let u = c.requires in
    figures_are u c.count.ensures
    (pair_least u c.of_pairs-all.ensures c.figure-pair.ensures)
    (near_least u c.of_neighbours-near.ensures c.figure-neighbour.ensures) c.distance.ensures
