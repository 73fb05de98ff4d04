-- The front parts are cleared, and the plan is held.
use mathlib.Core.Path.{◌∙◌}
use native.Mathlib.Omega.{arith}
use Prim.Native.Nat.{◌+◌, ◌*◌, ◌/◌}
use Rattle.act.proofs.StateLaws.{places_most, places_fit, bytes_fit, front_long, cleared_front, part_long, part_rest, begun}
use Rattle.act.proofs.plans.begin.Goals as goal

pub overflow_mul-places : goal.overflow_mul-places
overflow_mul-places c = omega (arith, places_most _ c.requires.0)

pub overflow_add-bytes : goal.overflow_add-bytes
overflow_add-bytes c = omega (arith, places_most _ c.requires.0)

pub slice_bounds-fill-end : goal.slice_bounds-fill-end
slice_bounds-fill-end c = places_fit _ c.requires.0 c.args.block.now c.requires.1

pub slice_bounds-fill-end-2 : goal.slice_bounds-fill-end-2
slice_bounds-fill-end-2 c = front_long _ c.args.block.now (places_fit _ c.requires.0 c.args.block.now c.requires.1)

pub slice_bounds-fill-end-3 : goal.slice_bounds-fill-end-3
slice_bounds-fill-end-3 c = bytes_fit _ c.requires.0 c.args.marks.now c.requires.2

pub slice_bounds-fill-end-4 : goal.slice_bounds-fill-end-4
slice_bounds-fill-end-4 c = front_long _ c.args.marks.now (bytes_fit _ c.requires.0 c.args.marks.now c.requires.2)

pub returns : goal.returns
returns c =
    let p = c.requires in
    let v = c.args.block.now in
    let m = c.args.marks.now in
    let k = c.args.plan.n * c.args.plan.t in
    let a = places_fit _ p.0 v p.1 in
    let b = bytes_fit _ p.0 m p.2 in
    begun _ v m _ _ p.0 (part_long k v c.fill.new.self a c.fill.auto.self ∙ p.1) (part_long ((k + 7) / 8) m c.fill-2.new.self b c.fill-2.auto.self ∙ p.2) (cleared_front k v c.fill.new.self a (c.fill.ensures.after (λ y e. e))) (cleared_front ((k + 7) / 8) m c.fill-2.new.self b (c.fill-2.ensures.after (λ y e. e))) (part_rest k v c.fill.new.self a c.fill.auto.self) (part_rest ((k + 7) / 8) m c.fill-2.new.self b c.fill-2.auto.self)
