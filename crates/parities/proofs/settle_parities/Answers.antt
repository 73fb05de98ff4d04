-- Peeling settles every parity place, and what it found is added to the block.
use Rattle.parities.specs.Settling.{parity_picture, peelable, fillable, settled}
use Rattle.parities.proofs.settle_parities.Goals as goal

pub count_parities-requires : goal.count_parities-requires
count_parities-requires c = record { good_plan = (c.requires.sealable.good, c.requires.sealable.of); tally_value = c.requires.blank.tally_zeros }

pub peel-k-requires : goal.peel-k-requires
peel-k-requires c = peelable c.requires.sealable.good c.args.block.now (parity_picture (λ i. (c.slice_known-1.given i).fits) c.syndromes.ensures c.count_parities.ensures) c.requires.room

pub fill-requires : goal.fill-requires
fill-requires c = fillable c.requires.sealable.good c.args.block.now c.requires.sealable.block_long (parity_picture (λ i. (c.slice_known-1.given i).fits) c.syndromes.ensures c.count_parities.ensures) c.peel-k.ensures

pub returns : goal.returns
returns c = settled c.requires.sealable.good c.args.block.now c.requires.sealable.block_long (parity_picture (λ i. (c.slice_known-1.given i).fits) c.syndromes.ensures c.count_parities.ensures) c.peel-k.ensures c.fill.ensures
