-- The tallies that are left walk the cycle of the closing place, from that place on.
use borrow.Author.Rules.{rules}
use Rattle.cycle.specs.Shows.{walkable, showing}
use Rattle.cycle.proofs.show.Goals as goal

pub walk-requires : goal.walk-requires
walk-requires c = record { walkable = search (rules, walkable); witness_len = search rules }

pub returns : goal.returns
returns c = search (rules, showing)
