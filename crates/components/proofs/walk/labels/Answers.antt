-- `walk::labels` meets its contract. Assumes nothing.
use Rattle.components.specs.Walks.{passed_labelled}
use Rattle.components.specs.Walking.{walking_start}
use Rattle.components.proofs.walk.labels.Goals as goal

pub pass-closing-requires : goal.pass-closing-requires
pass-closing-requires c = walking_start c.requires.0 _ c.requires.1 c.requires.2 c.own.ensures

pub returns : goal.returns
returns c = passed_labelled c.pass-closing.ensures c.settle.ensures
