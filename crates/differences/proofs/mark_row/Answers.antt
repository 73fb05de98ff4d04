use Rattle.differences.specs.DifferencesLaws.{row_more}
use Rattle.std.proofs.lemmas.Bool.{not_from_true}
use Rattle.differences.proofs.mark_row.Goals as goal

pub loop-j-preserved : goal.loop-j-preserved
loop-j-preserved c =
    row_more c.mark.ensures c.requires.1 c.loop-j-test.true c.loop-j.invariant (not_from_true _ c.if-not-mark.false)
