-- `distance::distance` meets its contract: each answer by the theorem of its case. Assumes nothing.
use Rattle.figures.specs.DistanceLaws.{pair_fits, distance_two, distance_same, distance_rule, distance_else}
use native.Mathlib.Omega.{arith}
use Rattle.figures.proofs.distance.distance.Goals as goal

pub overflow_add-result : goal.overflow_add-result
overflow_add-result c = omega (arith, pair_fits c.requires.0 c.requires.1)

pub returns-then-n-eq2 : goal.returns-then-n-eq2
returns-then-n-eq2 c = distance_two c.requires.0 c.requires.1 c.if-n-eq2.true

pub returns-then-pair-eq1 : goal.returns-then-pair-eq1
returns-then-pair-eq1 c = distance_same c.requires.0 c.requires.1 c.if-pair-eq1.true

pub returns-then-all_distinct : goal.returns-then-all_distinct
returns-then-all_distinct c = distance_rule c.requires.0 c.if-n-eq2.false (c.all_distinct.ensures.keeps c.if-all_distinct.true)

pub returns-else-all_distinct : goal.returns-else-all_distinct
returns-else-all_distinct c =
    let p = c.requires in
    distance_else p.0 p.1 c.if-n-eq2.false c.if-pair-eq1.false (c.all_distinct.ensures.breaks c.if-all_distinct.false)
