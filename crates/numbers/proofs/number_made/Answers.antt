-- `number_made` meets its contract: field by field. Assumes nothing.
use Rattle.numbers.specs.Entries.{numbered}
use Rattle.numbers.proofs.number_made.Goals as goal

pub returns : goal.returns
unfolding numbered
returns c = rw (c.number.ensures, c.unwrap_or.ensures, c.none.ensures)
