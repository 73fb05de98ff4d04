-- `message_length` meets its contract. Assumes nothing.
use Rattle.plan.specs.Plans.{layout_of}
use Rattle.plan.proofs.PlanLaws.{good_bounds}
use Rattle.blocks.proofs.message_length.Goals as goal

pub message_places-requires : goal.message_places-requires
message_places-requires c = good_bounds _ c.requires

pub returns : goal.returns
unfolding layout_of
returns c = c.message_places.ensures
