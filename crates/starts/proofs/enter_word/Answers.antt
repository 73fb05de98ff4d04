use Rattle.tables.proofs.WordWalk.{walk_marked, walk_at, walk_reached, walk_more, walk_done, walk_section}
use Rattle.starts.specs.Starts.{starting_skips}
use Rattle.starts.proofs.enter_word.Goals as goal

pub enter_rows-next-requires : goal.enter_rows-next-requires
enter_rows-next-requires c = record { starting = (walk_at c.loop-rest.invariant c.loop-rest-test.true starting_skips, walk_marked c.loop-rest.invariant c.loop-rest-test.true); reached = walk_reached c.loop-rest.invariant c.loop-rest-test.true }

pub loop-rest-preserved : goal.loop-rest-preserved
loop-rest-preserved c = walk_more c.loop-rest.invariant c.loop-rest-test.true c.enter_rows-next.ensures.starting_2 c.enter_rows-next.ensures.reached_2

pub returns : goal.returns
returns c = record { starting_2 = walk_done c.loop-rest.invariant starting_skips c.loop-rest-test.false; reached_2 = walk_section c.loop-rest.invariant }
