-- A call that passes is sealed; a call that stops keeps the block.
use mathlib.Core.Path.{refl, sym}
use Rattle.refusals.proofs.RefusalLaws.{handed_on}
use Rattle.promises.proofs.Building.{encodes_refused}
use Rattle.sealing.specs.Passing.{pass_plan, pass_long, encoded}
use Rattle.sealing.proofs.encode.Goals as goal

pub seal-requires : goal.seal-requires
seal-requires c = let e = pass_long _ _ _ (sym c.in_ok-check.ensures.answer) in (record { good = pass_plan _ _ _ (sym c.in_ok-check.ensures.answer); of = c.in_ok-check.ensures.of refl; block_long = e.0 }, e.1)

pub shape_of-block : goal.shape_of-block
shape_of-block c = c.seal.auto.block

pub returns : goal.returns
returns c = encoded _ _ _ (sym c.in_ok-check.ensures.answer) c.seal.ensures

pub returns-in_err-check : goal.returns-in_err-check
returns-in_err-check c = rw (handed_on _ c.from_residual.ensures.1) (encodes_refused _ _ _ (sym c.in_err-check.ensures.answer))
