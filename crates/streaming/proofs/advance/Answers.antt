-- A job that goes on goes further.
use Rattle.stream.proofs.WorksLaws.{advances_goes, advances_over, not_closed, not_past, not_lost}
use borrow.Author.Rules.{rules}
use Rattle.streaming.proofs.advance.Goals as goal

pub enum_told-1 : goal.enum_told-1
enum_told-1 c = search rules

pub go_on-requires : goal.go_on-requires
go_on-requires c = search rules

pub enum_told-in-Closed : goal.enum_told-in-Closed
enum_told-in-Closed c = search rules

pub enum_told-in-Past : goal.enum_told-in-Past
enum_told-in-Past c = search rules

pub enum_told-in-Lost : goal.enum_told-in-Lost
enum_told-in-Lost c = search rules

pub shape_of-block : goal.shape_of-block
shape_of-block c = search rules

pub shape_of-marks : goal.shape_of-marks
shape_of-marks c = search rules

pub shape_of-sheet : goal.shape_of-sheet
shape_of-sheet c = search rules

pub returns-in-Going : goal.returns-in-Going
returns-in-Going c = advances_goes c.in-Going.is c.go_on.ensures

pub returns-in-Closed : goal.returns-in-Closed
returns-in-Closed c = advances_over _ _ _ _ _ (not_closed c.in-Closed.is)

pub returns-in-Past : goal.returns-in-Past
returns-in-Past c = advances_over _ _ _ _ _ (not_past c.in-Past.is)

pub returns-in-Lost : goal.returns-in-Lost
returns-in-Lost c = advances_over _ _ _ _ _ (not_lost c.in-Lost.is)
