-- `count_ones` meets its contract: the marks of all places are the ones of all bytes. Assumes nothing.
use mathlib.Core.Path.{◌∙◌}
use Rattle.stretches.specs.StretchLaws.{count_all}
use Rattle.stretches.proofs.count_ones.Goals as goal

pub returns : goal.returns
returns c = c.ones_in.ensures.0 ∙ count_all _ (λ i. (c.type_inv.marks i).fits)
