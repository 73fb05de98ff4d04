-- `fumizhaki_ruler` meets its contract: the constructor's answer, numbered. Assumes nothing.
use mathlib.Core.Path.{◌∙◌, ap}
use Rattle.numbers.specs.Entries.{numbered}
use Rattle.capi.proofs.fumizhaki_ruler.Goals as goal

pub returns : goal.returns
returns c = c.number_made.ensures ∙ ap numbered c.ruler.ensures
