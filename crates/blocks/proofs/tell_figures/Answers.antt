-- `tell_figures` meets its contract. Assumes nothing.
use Rattle.plan.specs.Plans.{layout_of}
use Rattle.plan.proofs.PlanLaws.{good_bounds}
use Rattle.lines.proofs.LinesLaws.{wrote_at, wrote_front}
use Rattle.blocks.specs.BlockLaws.{figured}
use Rattle.blocks.proofs.tell_figures.Goals as goal

pub of_good-four-requires : goal.of_good-four-requires
of_good-four-requires c = good_bounds _ c.requires.1

pub returns : goal.returns
unfolding layout_of
returns c =
    let e = wrote_at c.figures_line.ensures in
    (λ v m k. figured k _ _ _ _ c.of_good-four.ensures e.text_stands, wrote_front e)
