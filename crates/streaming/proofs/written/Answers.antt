-- Done, or failed.
use mathlib.Core.Path.{◌∙◌}
use borrow.Author.Tests.{not-true, not-false}
use Rattle.stream.specs.Streams.{written_of}
use borrow.Author.Rules.{rules}
use Rattle.std.proofs.lemmas.Bool.{not_from_false, not_from_true}
use Rattle.streaming.proofs.written.Goals as goal

pub lost-requires : goal.lost-requires
lost-requires c = search rules

pub returns-then-not-done : goal.returns-then-not-done
unfolding written_of
returns-then-not-done c = c.lost.ensures ∙ rw (not-true c.args.done (not_from_false _ c.if-not-done.true))

pub returns : goal.returns
unfolding written_of
returns c = rw (not-false c.args.done (not_from_true _ c.if-not-done.false))
