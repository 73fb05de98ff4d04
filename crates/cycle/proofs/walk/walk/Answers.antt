use mathlib.Core.Path.{◌∙◌, ap}
use native.Mathlib.Omega.{arith}
use lib.ListN.{replicate}
use Rattle.cycle.specs.Walks.{walking_start, walking_room, walking_long, walking_couple, walking_end, walking_all, walking_more}
use Rattle.cycle.proofs.walk.walk.Goals as goal

pub loop-spot-init : goal.loop-spot-init
loop-spot-init c = λ l w.
    walking_start c.requires.walkable.good w c.fill.new.self c.requires.walkable.stands (c.fill.ensures.after (λ y e. e) ∙ ap (λ k. replicate k 0) c.requires.witness_len)

pub pair-spot-requires : goal.pair-spot-requires
pair-spot-requires c =
    let pre = c.requires.walkable in
    let g = c.loop-spot.invariant pre.cycle pre.walks in record { coupled = walking_couple pre.good pre.walks g pre.long; z_in_bounds = omega (arith, walking_room pre.good pre.walks g, walking_long pre.good pre.walks g) }

pub overflow_add-z : goal.overflow_add-z
overflow_add-z c =
    let pre = c.requires.walkable in
    omega (arith, walking_room pre.good pre.walks (c.loop-spot.invariant pre.cycle pre.walks), pre.good.t_max)

pub returns-then-spot-first : goal.returns-then-spot-first
returns-then-spot-first c =
    let good = c.requires.walkable.good in
    let inv = c.loop-spot.invariant in
    let p = c.pair-spot.ensures in
    record {
      written = λ l w. walking_all good w (inv l w) p c.if-spot-first.true;
      counted = λ l w. walking_end good w (inv l w) p c.if-spot-first.true;
    }

pub loop-spot-smaller : goal.loop-spot-smaller
loop-spot-smaller c =
    let pre = c.requires.walkable in
    omega (arith, walking_room pre.good pre.walks (c.loop-spot.invariant pre.cycle pre.walks))

pub loop-spot-preserved : goal.loop-spot-preserved
loop-spot-preserved c = λ l w. walking_more c.requires.walkable.good w (c.loop-spot.invariant l w) c.pair-spot.ensures c.if-spot-first.false
