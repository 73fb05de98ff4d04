-- `lengths_fit` meets its contract. Assumes nothing.
use Rattle.plan.proofs.Answers.{failed, passed}
use Rattle.calls.proofs.CallsLaws.{block_off, marks_off, witness_off, message_last}
use mathlib.Core.Path.{◌∙◌}
use Rattle.std.proofs.lemmas.Bool.{not_from_false, not_from_true}
use Rattle.calls.proofs.lengths_fit.Goals as goal

pub returns-then-not-part_fits : goal.returns-then-not-part_fits
returns-then-not-part_fits c = block_off _ _ _ _ (failed _ c.part_fits.ensures (not_from_false _ c.if-not-part_fits.true))

pub returns-then-not-part_fits-2 : goal.returns-then-not-part_fits-2
returns-then-not-part_fits-2 c = marks_off _ _ _ _ (passed _ c.part_fits.ensures (not_from_true _ c.if-not-part_fits.false)) (failed _ c.part_fits-2.ensures (not_from_false _ c.if-not-part_fits-2.true))

pub returns-then-not-part_fits-3 : goal.returns-then-not-part_fits-3
returns-then-not-part_fits-3 c = witness_off _ _ _ _ (passed _ c.part_fits.ensures (not_from_true _ c.if-not-part_fits.false)) (passed _ c.part_fits-2.ensures (not_from_true _ c.if-not-part_fits-2.false)) (failed _ c.part_fits-3.ensures (not_from_false _ c.if-not-part_fits-3.true))

pub returns : goal.returns
returns c =
    c.part_fits-4.ensures
    ∙ message_last _ _ _ _ (passed _ c.part_fits.ensures (not_from_true _ c.if-not-part_fits.false)) (passed _ c.part_fits-2.ensures (not_from_true _ c.if-not-part_fits-2.false)) (passed _ c.part_fits-3.ensures (not_from_true _ c.if-not-part_fits-3.false))
