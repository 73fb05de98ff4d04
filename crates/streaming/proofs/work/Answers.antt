-- What refuses the lent state, then the commands at hand.
use mathlib.Core.Path.{sym, ◌∙◌}
use Rattle.stream.proofs.WorksLaws.{works_bad, works_passed}
use borrow.Author.Rules.{rules}
use Rattle.streaming.proofs.work.Goals as goal

pub check_stream-requires : goal.check_stream-requires
check_stream-requires c = search rules

pub enum_known-x : goal.enum_known-x
enum_known-x c = search rules

pub enum_told-1 : goal.enum_told-1
enum_told-1 c = search rules

pub advance-next-requires : goal.advance-next-requires
advance-next-requires c = sym c.check_stream.ensures ∙ c.in-Ok.is

pub asked-requires : goal.asked-requires
asked-requires c = search rules

pub shape_of-block-in-Err : goal.shape_of-block-in-Err
shape_of-block-in-Err c = search rules

pub shape_of-marks-in-Err : goal.shape_of-marks-in-Err
shape_of-marks-in-Err c = search rules

pub shape_of-sheet-in-Err : goal.shape_of-sheet-in-Err
shape_of-sheet-in-Err c = search rules

pub shape_of-input-in-Err : goal.shape_of-input-in-Err
shape_of-input-in-Err c = search rules

pub returns-in-Err : goal.returns-in-Err
returns-in-Err c = works_bad _ _ _ _ _ _ (sym c.check_stream.ensures ∙ c.in-Err.is)

pub shape_of-block-in-Ok : goal.shape_of-block-in-Ok
shape_of-block-in-Ok c = search rules

pub shape_of-marks-in-Ok : goal.shape_of-marks-in-Ok
shape_of-marks-in-Ok c = search rules

pub shape_of-sheet-in-Ok : goal.shape_of-sheet-in-Ok
shape_of-sheet-in-Ok c = search rules

pub shape_of-input-in-Ok : goal.shape_of-input-in-Ok
shape_of-input-in-Ok c = search rules

pub returns-in-Ok : goal.returns-in-Ok
returns-in-Ok c = works_passed (sym c.check_stream.ensures ∙ c.in-Ok.is) c.advance-next.ensures c.asked.ensures
