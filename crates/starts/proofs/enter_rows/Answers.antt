-- `starts::enter_rows` meets its contract: the two rows of the place, in the section that is reached.
use mathlib.Core.Path.{refl, ◌∙◌}
use mathlib.Core.Logic.{inl, inr}
use Rattle.tables.specs.Picture.{counts}
use Rattle.tables.proofs.Scan.{marked_inside}
use Rattle.starts.specs.Starts.{spot_rows, starting_long, top_room, bottom_room, starting_more}
use Rattle.starts.proofs.enter_rows.Goals as goal

pub reach-here-requires : goal.reach-here-requires
reach-here-requires c = (c.requires.starting.0.startable.lent.good, c.requires.reached, marked_inside c.requires.starting.0.startable.lent c.args.c.0 c.requires.starting.1)

pub bounds-tally-a : goal.bounds-tally-a
bounds-tally-a c = starting_long c.requires.starting.0 (inl (c.top-high.ensures ∙ (spot_rows c.reach-here.ensures.0 c.reach-here.ensures.1).0))

pub enter-tops-requires : goal.enter-tops-requires
unfolding counts
enter-tops-requires c = top_room c.requires.starting.0 c.requires.starting.1 (c.top-high.ensures ∙ (spot_rows c.reach-here.ensures.0 c.reach-here.ensures.1).0) refl

pub bounds-tally-b : goal.bounds-tally-b
bounds-tally-b c = starting_long c.requires.starting.0 (inr (c.bottom-low.ensures ∙ (spot_rows c.reach-here.ensures.0 c.reach-here.ensures.1).1))

pub enter-bottoms-requires : goal.enter-bottoms-requires
unfolding counts
enter-bottoms-requires c = bottom_room c.requires.starting.0 c.requires.starting.1 (c.bottom-low.ensures ∙ (spot_rows c.reach-here.ensures.0 c.reach-here.ensures.1).1) refl

pub returns : goal.returns
unfolding counts
returns c = record {
  starting_2 = starting_more c.requires.starting.0 c.requires.starting.1 (c.top-high.ensures ∙ (spot_rows c.reach-here.ensures.0 c.reach-here.ensures.1).0) refl c.enter-tops.ensures c.enter-tops.auto.queue
      (c.bottom-low.ensures ∙ (spot_rows c.reach-here.ensures.0 c.reach-here.ensures.1).1) refl c.enter-bottoms.ensures c.enter-bottoms.auto.queue;
  reached_2 = c.reach-here.ensures.0;
}
