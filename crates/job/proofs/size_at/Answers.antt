-- The first byte says the size.
use mathlib.Core.Path.{◌∙◌}
use Rattle.job.proofs.PerformLaws.{size_none, size_found}
use Rattle.job.proofs.size_at.Goals as goal

pub returns-then-bytes-eq0 : goal.returns-then-bytes-eq0
returns-then-bytes-eq0 c = size_none c.args.bytes.now c.if-bytes-eq0.true

pub returns : goal.returns
returns c = c.unwrap_or.ensures ∙ size_found _ c.size_of.ensures
