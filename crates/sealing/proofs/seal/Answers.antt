-- The message is spread over the block, and the parity places are filled.
use mathlib.Core.Path.{◌∙◌}
use Rattle.parities.specs.Settling.{sealed}
use Rattle.sealing.proofs.seal.Goals as goal

pub spread-requires : goal.spread-requires
spread-requires c = record { L = _; of = c.requires.0.of; block_long = c.requires.0.block_long; message_long = c.requires.1 }

pub fill_parities-requires : goal.fill_parities-requires
fill_parities-requires c = record { good = c.requires.0.good; of = c.requires.0.of; block_long = c.spread.auto.block ∙ c.requires.0.block_long }

pub shape_of-block : goal.shape_of-block
shape_of-block c = c.fill_parities.auto.block ∙ c.spread.auto.block

pub returns : goal.returns
returns c = sealed c.requires.0.good (λ i. (c.shared_slice_known-3-1.given i).fits) (c.spread.ensures _ c.requires.0.of).carried c.fill_parities.ensures
