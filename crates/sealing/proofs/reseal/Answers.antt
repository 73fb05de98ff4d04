-- The parity places are filled where the block stands.
use mathlib.Core.Path.{refl}
use Rattle.plan.specs.Plans.{layout_of}
use Rattle.plan.proofs.PlanLaws.{good_bounds}
use Rattle.code.specs.Laws.ParityCount.{messages}
use Rattle.promises.proofs.Building.{map_bytes}
use Rattle.parities.specs.Settling.{sealed}
use Rattle.sealing.proofs.reseal.Goals as goal

pub runs-requires : goal.runs-requires
runs-requires c = (good_bounds _ c.requires.0, refl)

pub fill_parities-requires : goal.fill_parities-requires
fill_parities-requires c = record { good = good_bounds _ c.requires.0; of = c.runs.ensures; block_long = c.requires.1 }

pub returns : goal.returns
unfolding layout_of
returns c = sealed (good_bounds _ c.requires.0) (map_bytes c.args.block.now (λ i. (c.slice_known-1.given i).fits) (messages (layout_of c.args.plan))) refl c.fill_parities.ensures
