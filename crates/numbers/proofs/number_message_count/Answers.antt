-- `number_message_count` meets its contract. Assumes nothing.
use mathlib.Core.Path.{◌∙◌, ap}
use Rattle.refusals.specs.Refusals.{check_number, count_value}
use Rattle.numbers.proofs.number_message_count.Goals as goal

pub returns : goal.returns
returns c = let e = c.message_count-messages.ensures.value in record { value = c.number.ensures ∙ ap check_number e; count_after = c.unwrap_or.ensures ∙ ap count_value e }
