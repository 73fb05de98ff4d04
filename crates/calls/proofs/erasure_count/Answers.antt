-- `erasure_count` meets its contract. Assumes nothing.
use Rattle.refusals.proofs.RefusalLaws.{handed_on}
use Rattle.calls.proofs.CallsLaws.{count_most, counted_pass, counted_stop}
use Rattle.refusals.specs.Refusals.{check_number}
use Rattle.std.specs.Prelude.{Ok}
use mathlib.Core.Path.{sym, ◌∙◌, ap}
use Rattle.calls.proofs.erasure_count.Goals as goal

pub count_ones-requires : goal.count_ones-requires
count_ones-requires c = count_most _ c.args.marks.now (sym c.in_ok-check_marks.ensures)

pub returns : goal.returns
returns c =
    let e = sym c.in_ok-check_marks.ensures in
    record { value = ap Ok c.count_ones.ensures ∙ counted_pass _ _ e (λ i. (c.shared_slice_known-1.given i).fits); result_value = ap check_number (sym e) }

pub returns-in_err-check_marks : goal.returns-in_err-check_marks
returns-in_err-check_marks c =
    let e = sym c.in_err-check_marks.ensures in
    let x = handed_on _ c.from_residual.ensures.1 in
    record { value = x ∙ counted_stop _ _ _ e; result_value = ap check_number x ∙ ap check_number (sym e) }
