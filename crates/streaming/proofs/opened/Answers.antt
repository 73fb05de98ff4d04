-- Nothing is held, read or written.
use borrow.Author.Rules.{rules}
use Rattle.streaming.proofs.opened.Goals as goal

pub start-held-requires : goal.start-held-requires
start-held-requires c = search rules

pub begin-cursor-requires : goal.begin-cursor-requires
begin-cursor-requires c = search rules

pub returns : goal.returns
returns c = rw (c.start-held.ensures, c.begin-cursor.ensures)
