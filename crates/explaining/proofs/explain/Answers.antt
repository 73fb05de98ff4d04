-- The components are added up by their labels; where all sum to 0, the closing place shows its cycle.
use mathlib.Core.Path.{◌∙◌}
use Rattle.explaining.specs.Explains.{labels_lent, labels_crossed, labels_loose}
use Rattle.explaining.proofs.explain.Goals as goal

pub crossed-requires : goal.crossed-requires
crossed-requires c = labels_lent c.requires.lent c.labels-closing.ensures c.requires.room.0.sum_long c.requires.room.0.value_long c.requires.room.1

pub loose-requires : goal.loose-requires
loose-requires c = let room = c.requires.room.0 in record { lent = c.requires.lent; closed = c.labels-closing.ensures.closed; room = (record { sum_long = room.sum_long; tally_long = room.tally_long; place_long = c.labels-closing.auto.parent ∙ room.place_long; value_long = c.crossed.auto.total ∙ room.value_long }, c.crossed.auto.witness ∙ c.requires.room.1) }

pub returns-in-Some : goal.returns-in-Some
returns-in-Some c = labels_crossed c.requires.lent c.labels-closing.ensures c.crossed.ensures c.in-Some.is

pub returns-in-None : goal.returns-in-None
returns-in-None c = labels_loose c.requires.lent c.labels-closing.ensures c.crossed.ensures c.in-None.is c.loose.ensures
