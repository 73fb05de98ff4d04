-- `copied` meets its contract. Assumes nothing.
use Rattle.shifts.specs.ShiftsLaws.{copied_whole}
use Rattle.shifts.proofs.copied.Goals as goal

pub returns : goal.returns
returns c = copied_whole _ c.copy_from_slice.ensures.after c.requires
