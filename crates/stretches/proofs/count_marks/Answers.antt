-- `count_marks` meets its contract: the parts add up. Assumes nothing.
use Rattle.stretches.specs.StretchLaws.{count_parts}
use Rattle.stretches.proofs.count_marks.Goals as goal

pub returns : goal.returns
returns c =
    count_parts c.cut_of-cut.ensures _ c.part.ensures c.part-2.ensures c.ones_of-first.ensures.0 c.ones_in-whole.ensures.0 c.ones_of-last.ensures.0
