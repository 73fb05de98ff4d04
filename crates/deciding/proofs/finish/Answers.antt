-- A whole block is filled with the one codeword that agrees; otherwise the refusal is explained.
use mathlib.Core.Path.{sym, ◌∙◌}
use Rattle.deciding.specs.Attempts.{tried_fills, tried_recovers, tried_room, tried_explains}
use Rattle.deciding.proofs.finish.Goals as goal

pub put_in-requires : goal.put_in-requires
put_in-requires c = tried_fills c.requires.given c.requires.tried.0

pub returns-then-whole : goal.returns-then-whole
returns-then-whole c = tried_recovers c.requires.given c.requires.tried.0 (sym c.requires.tried.1 ∙ c.if-whole.true) c.put_in.ensures.block_after c.put_in.ensures.value

pub explain-requires : goal.explain-requires
explain-requires c = record { lent = c.requires.given.marked; room = (tried_room c.requires.given c.requires.tried.0, c.requires.given.witness_long) }

pub returns : goal.returns
returns c = tried_explains c.requires.given c.requires.tried.0 (sym c.requires.tried.1 ∙ c.if-whole.false) c.explain.ensures
