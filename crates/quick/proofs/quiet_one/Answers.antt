use native.Mathlib.Omega.{arith}
use Rattle.quick.specs.QuickLaws.{quiet_none}
use borrow.Author.Rules.{rules}
use Rattle.quick.proofs.quiet_one.Goals as goal

pub byte-first-requires : goal.byte-first-requires
byte-first-requires c = search rules

pub symbols-requires : goal.symbols-requires
symbols-requires c = (c.requires.0, c.requires.1, c.requires.2, omega (arith, c.requires.3))

pub shape_of-block-then-first-eq3 : goal.shape_of-block-then-first-eq3
shape_of-block-then-first-eq3 c = search rules

pub shape_of-bits-then-first-eq3 : goal.shape_of-bits-then-first-eq3
shape_of-bits-then-first-eq3 c = search rules

pub returns-then-first-eq3 : goal.returns-then-first-eq3
returns-then-first-eq3 c = search rules

pub marked-requires : goal.marked-requires
marked-requires c = (c.requires.0, c.requires.2, omega (arith, c.requires.3))

pub shape_of-bits-then-first-eq4 : goal.shape_of-bits-then-first-eq4
shape_of-bits-then-first-eq4 c = search rules

pub returns-then-first-eq4 : goal.returns-then-first-eq4
returns-then-first-eq4 c = c.marked.ensures _

pub run-requires : goal.run-requires
run-requires c = search rules

pub shape_of-bits-then-first-eq5 : goal.shape_of-bits-then-first-eq5
shape_of-bits-then-first-eq5 c = search rules

pub returns-then-first-eq5 : goal.returns-then-first-eq5
returns-then-first-eq5 c = c.run.ensures _

pub returns : goal.returns
returns c = quiet_none _ _ _ _ _ (omega (arith, c.requires.3))
