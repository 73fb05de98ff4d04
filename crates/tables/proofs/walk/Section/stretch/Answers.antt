-- `tables::walk::Section::stretch` meets its contract: up to the end, and no further than where the bottom rows begin anew.
use Rattle.std.proofs.Common.{arith}
use Rattle.tables.proofs.Stretches.{stretch_low, stretch_high}
use Rattle.tables.proofs.walk.Section.stretch.Goals as goal

pub returns-then-k-self : goal.returns-then-k-self
returns-then-k-self c =
    let reached = c.requires.1 in
    let place = c.from-place.ensures in
    let low = c.if-k-self.true in
    let whole = c.min.ensures in
    let cut = c.min-then-k-self.ensures in
    let below = c.requires.0.below c.args.self.index reached.inside in
    (stretch_high (omega (arith, reached.shift)) (omega arith) (omega (arith, reached.passed, c.requires)), omega (arith, reached.passed, c.requires), omega (arith, reached.passed, c.requires))

pub returns : goal.returns
returns c =
    let reached = c.requires.1 in
    let place = c.from-place.ensures in
    let high = c.if-k-self.false in
    let whole = c.min.ensures in
    (stretch_low (omega (arith, reached.ends, reached.passed, c.requires)) (omega arith), omega (arith, reached.passed, c.requires), omega (arith, reached.passed, c.requires))
