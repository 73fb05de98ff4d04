-- The front parts of the buffers are sealed and cleared.
use Rattle.std.proofs.Common.{refl}
use native.Mathlib.Omega.{arith}
use Rattle.act.proofs.StateLaws.{places_most, places_fit, bytes_fit, front_long}
use Rattle.blocks.specs.BlockLaws.{lent_whole, sealed_acts}
use Rattle.lines.proofs.LinesLaws.{wrote_at, wrote_front}
use Rattle.blocks.proofs.seal_state.Goals as goal

pub overflow_mul-places : goal.overflow_mul-places
overflow_mul-places c = let p = c.requires in omega (arith, places_most _ (p.0.good refl))

pub overflow_add-bytes : goal.overflow_add-bytes
overflow_add-bytes c = let p = c.requires in omega (arith, places_most _ (p.0.good refl))

pub message_length-count-requires : goal.message_length-count-requires
message_length-count-requires c = let p = c.requires in p.0.good refl

pub slice_bounds-reseal-end : goal.slice_bounds-reseal-end
slice_bounds-reseal-end c = let p = c.requires in places_fit _ (p.0.good refl) c.args.block.now p.0.block_long

pub slice_bounds-reseal-end-2 : goal.slice_bounds-reseal-end-2
slice_bounds-reseal-end-2 c = let p = c.requires in front_long _ c.args.block.now (places_fit _ (p.0.good refl) c.args.block.now p.0.block_long)

pub reseal-requires : goal.reseal-requires
reseal-requires c = let p = c.requires in (p.0.good refl, (lent_whole p.0 refl).block_long)

pub slice_bounds-fill-end : goal.slice_bounds-fill-end
slice_bounds-fill-end c = let p = c.requires in bytes_fit _ (p.0.good refl) c.args.marks.now p.0.marks_long

pub slice_bounds-fill-end-2 : goal.slice_bounds-fill-end-2
slice_bounds-fill-end-2 c = let p = c.requires in front_long _ c.args.marks.now (bytes_fit _ (p.0.good refl) c.args.marks.now p.0.marks_long)

pub sealed_line-requires : goal.sealed_line-requires
sealed_line-requires c = omega (arith, c.requires.1)

pub shape_of-line : goal.shape_of-line
shape_of-line c = c.sealed_line.auto.line

pub returns : goal.returns
returns c =
    let p = c.requires in
    let e = wrote_at c.sealed_line.ensures in (
      sealed_acts p.0 refl _ _ c.reseal.auto.block c.fill.auto.self c.reseal.ensures (c.fill.ensures.after (λ y e. e)) c.message_length-count.ensures e.text_stands,
      wrote_front e,
    )
