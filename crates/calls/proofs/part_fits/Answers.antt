-- `part_fits` meets its contract. Assumes nothing.
use Rattle.calls.proofs.CallsLaws.{part_of}
use Rattle.calls.proofs.part_fits.Goals as goal

pub returns-in-Some : goal.returns-in-Some
returns-in-Some c = part_of _ _ _ c.in-Some.is
