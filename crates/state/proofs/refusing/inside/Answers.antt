-- `inside` meets its contract: a quotient instead of a product. Assumes nothing.
use Rattle.state.specs.RefusingLaws.{inside_none, inside_some}
use Rattle.state.proofs.refusing.inside.Goals as goal

pub returns-then-n-eq0 : goal.returns-then-n-eq0
returns-then-n-eq0 c = inside_none _ c.args.t c.args.c c.if-n-eq0.true

pub returns : goal.returns
returns c = inside_some c.args.n c.args.t c.args.c c.if-n-eq0.false
