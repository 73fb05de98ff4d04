-- `parents::unite` meets its contract. The roots of the two rows decide, and the lower root stays one. Assumes nothing.
use borrow.Author.Rules.{rules}
use Rattle.components.specs.Parents.{unites_same, unites_first, unites_second}
use Rattle.components.proofs.parents.unite.Goals as goal

pub returns-then-a-b : goal.returns-then-a-b
returns-then-a-b c = rw c.put_row.ensures (unites_second c.find-a.ensures c.find-b.ensures (search rules) (search rules))

pub shape_of-parent-then-a-b : goal.shape_of-parent-then-a-b
shape_of-parent-then-a-b c = (returns-then-a-b c).united.long

pub returns-then-b-a : goal.returns-then-b-a
returns-then-b-a c = rw c.put_row-then-b-a.ensures (unites_first c.find-a.ensures c.find-b.ensures (search rules) (search rules))

pub shape_of-parent-then-b-a : goal.shape_of-parent-then-b-a
shape_of-parent-then-b-a c = (returns-then-b-a c).united.long

pub returns : goal.returns
returns c = unites_same c.find-a.ensures c.find-b.ensures (search rules)
