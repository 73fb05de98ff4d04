use Rattle.differences.specs.DifferencesLaws.{marked_start, rule_keeps}
use Rattle.differences.proofs.all_distinct.Goals as goal

pub loop-i-init : goal.loop-i-init
loop-i-init c = marked_start c.requires.t_max

pub returns : goal.returns
returns c = rule_keeps c.loop-i-test.false c.loop-i.invariant
