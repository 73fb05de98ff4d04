-- The tables of a block of zeros: sums of zeros, and the erasures counted.
use Rattle.slices.specs.Copying.{cleared}
use Rattle.cycle.specs.Shows.{begun}
use Rattle.cycle.proofs.picture_from.Goals as goal

pub returns : goal.returns
returns c = begun c.requires.closing (cleared (c.fill.ensures.after (λ y e. e)) c.requires.sum_len.0) c.count.ensures
