-- Each command by its own function.
use mathlib.Core.Path.{refl, sym, ◌∙◌}
use mathlib.Core.Bool.{true≢false}
use Rattle.state.proofs.Tags.{tag_makes}
use Rattle.dispatch.specs.DispatchLaws.{refusal_is, shift_any, quiet_acts, told_acts}
use Rattle.dispatch.proofs.dispatch.Goals as goal

pub set_shift-requires : goal.set_shift-requires
set_shift-requires c = (λ v m. shift_any _ _ _ v m _ _ (refusal_is _ c.in-SetShift.is c.requires.2), c.requires.0.good refl)

pub set_symbol-requires : goal.set_symbol-requires
set_symbol-requires c = (c.requires.0, refusal_is _ c.in-SetSymbol.is c.requires.2)

pub mark_one-requires : goal.mark_one-requires
mark_one-requires c = (_, (c.requires.0, refusal_is _ c.in-MarkOne.is c.requires.2))

pub mark_run-requires : goal.mark_run-requires
mark_run-requires c = (_, (c.requires.0, refusal_is _ c.in-MarkRun.is c.requires.2))

pub show-requires : goal.show-requires
show-requires c = (c.requires.1, (_, (c.requires.0, refusal_is _ c.in-Show.is c.requires.2)))

pub tell_figures-requires : goal.tell_figures-requires
tell_figures-requires c = (c.requires.1, c.requires.0.good refl)

pub fetch_state-requires : goal.fetch_state-requires
fetch_state-requires c = (c.requires.1, (_, c.requires.0))

pub returns-in-SetShift : goal.returns-in-SetShift
returns-in-SetShift c = quiet_acts _ c.in-SetShift.is (c.set_shift.ensures _ _ c.requires.0)

pub shape_of-block-in-SetSymbol : goal.shape_of-block-in-SetSymbol
shape_of-block-in-SetSymbol c = c.set_symbol.auto.block

pub shape_of-marks-in-SetSymbol : goal.shape_of-marks-in-SetSymbol
shape_of-marks-in-SetSymbol c = c.set_symbol.auto.bits

pub returns-in-SetSymbol : goal.returns-in-SetSymbol
returns-in-SetSymbol c = quiet_acts _ c.in-SetSymbol.is c.set_symbol.ensures

pub shape_of-marks-in-MarkOne : goal.shape_of-marks-in-MarkOne
shape_of-marks-in-MarkOne c = c.mark_one.auto.bits

pub returns-in-MarkOne : goal.returns-in-MarkOne
returns-in-MarkOne c = quiet_acts _ c.in-MarkOne.is (c.mark_one.ensures _ c.requires.0)

pub shape_of-marks-in-MarkRun : goal.shape_of-marks-in-MarkRun
shape_of-marks-in-MarkRun c = c.mark_run.auto.bits

pub returns-in-MarkRun : goal.returns-in-MarkRun
returns-in-MarkRun c = quiet_acts _ c.in-MarkRun.is (c.mark_run.ensures _ c.requires.0)

pub shape_of-block-in-Recover : goal.shape_of-block-in-Recover
shape_of-block-in-Recover c = c.recover_state.auto.block

pub shape_of-marks-in-Recover : goal.shape_of-marks-in-Recover
shape_of-marks-in-Recover c = c.recover_state.auto.marks

pub shape_of-line-in-Recover : goal.shape_of-line-in-Recover
shape_of-line-in-Recover c = c.recover_state.auto.line

pub returns-in-Recover : goal.returns-in-Recover
returns-in-Recover c = told_acts _ _ c.in-Recover.is c.recover_state.ensures

pub shape_of-block-in-Seal : goal.shape_of-block-in-Seal
shape_of-block-in-Seal c = c.seal_state.auto.block

pub shape_of-marks-in-Seal : goal.shape_of-marks-in-Seal
shape_of-marks-in-Seal c = c.seal_state.auto.marks

pub shape_of-line-in-Seal : goal.shape_of-line-in-Seal
shape_of-line-in-Seal c = c.seal_state.auto.line

pub returns-in-Seal : goal.returns-in-Seal
returns-in-Seal c = told_acts _ _ c.in-Seal.is c.seal_state.ensures

pub shape_of-line-in-Show : goal.shape_of-line-in-Show
shape_of-line-in-Show c = c.show.auto.line

pub returns-in-Show : goal.returns-in-Show
returns-in-Show c = told_acts _ _ c.in-Show.is (c.show.ensures.0 _ c.requires.0, c.show.ensures.1)

pub shape_of-line-in-Figures : goal.shape_of-line-in-Figures
shape_of-line-in-Figures c = c.tell_figures.auto.line

pub returns-in-Figures : goal.returns-in-Figures
returns-in-Figures c = told_acts _ _ c.in-Figures.is (c.tell_figures.ensures.0 _ _ c.requires.0, c.tell_figures.ensures.1)

pub shape_of-line-in-Fetch : goal.shape_of-line-in-Fetch
shape_of-line-in-Fetch c = c.fetch_state.auto.line

pub returns-in-Fetch : goal.returns-in-Fetch
returns-in-Fetch c = let e = c.fetch_state.ensures in told_acts _ _ c.in-Fetch.is (e.0 _ c.requires.0, e.1)

pub returns-in_default : goal.returns-in_default
returns-in_default c =
    let d = c.in_default in
    let m = tag_makes _ d.not-SetShift d.not-SetSymbol d.not-MarkOne d.not-MarkRun d.not-Recover d.not-Seal d.not-Show d.not-Figures d.not-Fetch in
    absurd (true≢false (sym m ∙ c.requires.3))
