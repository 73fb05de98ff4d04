-- The front parts of the buffers are recovered.
use Rattle.std.proofs.Common.{refl}
use mathlib.Core.Path.{sym}
use native.Mathlib.Omega.{arith}
use Rattle.plan.proofs.PlanLaws.{good_bounds}
use Rattle.blocks.specs.RecoverLaws.{zeros_long}
use Rattle.act.proofs.StateLaws.{places_most, places_fit, bytes_fit, front_long}
use Rattle.blocks.specs.BlockLaws.{lent_whole, recovered_acts}
use Rattle.recovering.proofs.recover_state.Goals as goal

pub overflow_mul-places : goal.overflow_mul-places
overflow_mul-places c = let p = c.requires in omega (arith, places_most _ (p.0.good refl))

pub overflow_add-bytes : goal.overflow_add-bytes
overflow_add-bytes c = let p = c.requires in omega (arith, places_most _ (p.0.good refl))

pub overflow_mul-rows : goal.overflow_mul-rows
overflow_mul-rows c = let p = c.requires in omega (arith, good_bounds _ (p.0.good refl))

pub slice_bounds-recover_whole-end : goal.slice_bounds-recover_whole-end
slice_bounds-recover_whole-end c = let p = c.requires in places_fit _ (p.0.good refl) c.args.block.now p.0.block_long

pub slice_bounds-recover_whole-end-2 : goal.slice_bounds-recover_whole-end-2
slice_bounds-recover_whole-end-2 c = let p = c.requires in front_long _ c.args.block.now (places_fit _ (p.0.good refl) c.args.block.now p.0.block_long)

pub slice_bounds-recover_whole-end-3 : goal.slice_bounds-recover_whole-end-3
slice_bounds-recover_whole-end-3 c = let p = c.requires in bytes_fit _ (p.0.good refl) c.args.marks.now p.0.marks_long

pub slice_bounds-recover_whole-end-4 : goal.slice_bounds-recover_whole-end-4
slice_bounds-recover_whole-end-4 c = let p = c.requires in front_long _ c.args.marks.now (bytes_fit _ (p.0.good refl) c.args.marks.now p.0.marks_long)

pub slice_bounds-witness-end : goal.slice_bounds-witness-end
slice_bounds-witness-end c = let p = c.requires in omega (arith, good_bounds _ (p.0.good refl))

pub slice_bounds-recover_whole-end-5 : goal.slice_bounds-recover_whole-end-5
slice_bounds-recover_whole-end-5 c = let p = c.requires in zeros_long _ 4096 (omega (arith, good_bounds _ (p.0.good refl)))

pub recover_whole-requires : goal.recover_whole-requires
recover_whole-requires c = let p = c.requires in (lent_whole p.0 refl, p.1, sym (zeros_long _ 4096 (omega (arith, good_bounds _ (p.0.good refl)))))

pub shape_of-line : goal.shape_of-line
shape_of-line c = c.recover_whole.auto.line

pub returns : goal.returns
returns c = let p = c.requires in (recovered_acts p.0 refl _ _ c.recover_whole.auto.block c.recover_whole.auto.marks c.recover_whole.ensures.0, c.recover_whole.ensures.1)
