-- `peel` meets its contract. Assumes nothing.
use Rattle.peel.specs.Peels.{peelable_seed}
use Rattle.peel.proofs.peel.Goals as goal

pub seed-seeds-requires : goal.seed-seeds-requires
seed-seeds-requires c = peelable_seed c.requires
