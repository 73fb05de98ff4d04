-- A call that stops and a block that is no codeword keep the message buffer; otherwise the message is read.
use mathlib.Core.Path.{sym, ◌∙◌}
use borrow.Author.Tests.{not-true, not-false}
use Rattle.promises.proofs.Building.{reads_refused}
use Rattle.sealing.specs.Passing.{pass_plan, pass_long, read, crossed}
use Rattle.std.proofs.lemmas.Bool.{not_from_false, not_from_true}
use Rattle.sealing.proofs.message_of.Goals as goal

pub is_codeword-requires : goal.is_codeword-requires
is_codeword-requires c = (pass_plan _ _ _ (sym c.check.ensures.answer ∙ c.in-Ok.is), (pass_long _ _ _ (sym c.check.ensures.answer ∙ c.in-Ok.is)).0)

pub returns-then-not-is_codeword : goal.returns-then-not-is_codeword
returns-then-not-is_codeword c = crossed _ _ _ (sym c.check.ensures.answer ∙ c.in-Ok.is) (c.is_codeword.ensures.no (not-true _ (not_from_false _ c.if-not-is_codeword.true)))

pub gather-requires : goal.gather-requires
gather-requires c = let e = pass_long _ _ _ (sym c.check.ensures.answer ∙ c.in-Ok.is) in record { L = _; of = c.check.ensures.of c.in-Ok.is; block_long = e.0; message_long = e.1 }

pub returns-else-not-is_codeword : goal.returns-else-not-is_codeword
returns-else-not-is_codeword c = read _ _ _ (sym c.check.ensures.answer ∙ c.in-Ok.is) (c.is_codeword.ensures.yes (not-false _ (not_from_true _ c.if-not-is_codeword.false))) (c.gather.ensures _ (c.check.ensures.of c.in-Ok.is))

pub returns-in-Err : goal.returns-in-Err
returns-in-Err c = reads_refused _ _ _ (sym c.check.ensures.answer ∙ c.in-Err.is)
