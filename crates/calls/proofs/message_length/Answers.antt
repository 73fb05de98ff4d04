-- `message_length` meets its contract. Assumes nothing.
use Rattle.calls.proofs.CallsLaws.{part_same}
use Rattle.calls.proofs.message_length.Goals as goal

pub returns-in-Some : goal.returns-in-Some
returns-in-Some c = part_same c.args.part c.message_places.ensures
