-- By what stands at the front of the bytes.
use mathlib.Core.Path.{sym, ◌∙◌}
use Rattle.job.proofs.take_turn.Goals as goal

pub at_end-requires : goal.at_end-requires
at_end-requires c = c.requires.1

pub unknown-requires : goal.unknown-requires
unknown-requires c = c.requires.1

pub cut_off-requires : goal.cut_off-requires
cut_off-requires c = c.requires.1

pub go-requires : goal.go-requires
go-requires c = c.requires

pub shape_of-line-in-Nothing : goal.shape_of-line-in-Nothing
shape_of-line-in-Nothing c = c.at_end.auto.line

pub returns-in-Nothing : goal.returns-in-Nothing
returns-in-Nothing c = c.at_end.ensures _ _ _ _ (sym c.parse.ensures ∙ c.in-Nothing.is)

pub shape_of-line-in-Unknown : goal.shape_of-line-in-Unknown
shape_of-line-in-Unknown c = c.unknown.auto.line

pub returns-in-Unknown : goal.returns-in-Unknown
returns-in-Unknown c = c.unknown.ensures _ _ _ _ (sym c.parse.ensures ∙ c.in-Unknown.is)

pub shape_of-line-in-Short : goal.shape_of-line-in-Short
shape_of-line-in-Short c = c.cut_off.auto.line

pub returns-in-Short : goal.returns-in-Short
returns-in-Short c = c.cut_off.ensures _ _ _ (sym c.parse.ensures ∙ c.in-Short.is)

pub shape_of-block : goal.shape_of-block
shape_of-block c = c.go.auto.block

pub shape_of-marks : goal.shape_of-marks
shape_of-marks c = c.go.auto.marks

pub shape_of-line-in-Whole : goal.shape_of-line-in-Whole
shape_of-line-in-Whole c = c.go.auto.line

pub returns-in-Whole : goal.returns-in-Whole
returns-in-Whole c = c.go.ensures _ _ (sym c.parse.ensures ∙ c.in-Whole.is) c.size_at.ensures
