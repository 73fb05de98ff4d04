-- `differences::difference` meets its contract. Assumes nothing.
use Rattle.differences.specs.DifferencesLaws.{difference_wraps, difference_plain}
use Rattle.differences.proofs.difference.Goals as goal

pub returns-then-p-q : goal.returns-then-p-q
returns-then-p-q c =
    difference_wraps _ _ _ c.from-p.ensures c.from-q.ensures c.if-p-q.true
    c.requires.second_below

pub returns : goal.returns
returns c =
    difference_plain _ _ _ c.from-p.ensures c.from-q.ensures c.if-p-q.false
    c.requires.first_below
