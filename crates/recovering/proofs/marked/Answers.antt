-- `marked` meets its contract. Assumes nothing.
use mathlib.Core.Path.{◌∙◌, ap}
use Rattle.refusals.specs.Refusals.{count_value}
use Rattle.blocks.specs.RecoverLaws.{marked_is}
use Rattle.recovering.proofs.marked.Goals as goal

pub returns : goal.returns
returns c = let p = c.requires in c.unwrap_or.ensures ∙ ap count_value c.erasure_count.ensures.value ∙ marked_is _ _ p.0 p.1 p.2
