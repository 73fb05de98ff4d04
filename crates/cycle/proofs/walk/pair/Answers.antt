-- The top row gives the second place, and its bottom row the third.
use native.Mathlib.Omega.{arith}
use Rattle.cycle.specs.Walks.{couple_top, couple_bottom, second_stands, second_shift, paired}
use Rattle.cycle.proofs.walk.pair.Goals as goal

pub mate-two-requires : goal.mate-two-requires
mate-two-requires c = couple_top c.requires.coupled c.top-high.ensures

pub offset_bounds-shifts-j : goal.offset_bounds-shifts-j
offset_bounds-shifts-j c = omega (arith, (second_shift c.requires.coupled c.top-high.ensures c.mate-two.ensures).0)

pub bounds-shifts-j : goal.bounds-shifts-j
bounds-shifts-j c = (second_shift c.requires.coupled c.top-high.ensures c.mate-two.ensures).0

pub overflow_cast-p : goal.overflow_cast-p
overflow_cast-p c = omega (arith, (second_shift c.requires.coupled c.top-high.ensures c.mate-two.ensures).1, c.requires.coupled.good.t_max)

pub put_place-requires-2 : goal.put_place-requires-2
put_place-requires-2 c = omega (arith, c.requires.z_in_bounds, c.put_place.auto.list)

pub bottom-low-requires : goal.bottom-low-requires
bottom-low-requires c = (second_stands c.requires.coupled c.top-high.ensures c.mate-two.ensures, (second_shift c.requires.coupled c.top-high.ensures c.mate-two.ensures).1, c.requires.coupled.good.t_max)

pub mate-requires : goal.mate-requires
mate-requires c = couple_bottom c.requires.coupled c.top-high.ensures c.mate-two.ensures c.bottom-low.ensures

pub returns : goal.returns
returns c = paired c.requires.coupled c.top-high.ensures c.mate-two.ensures c.bottom-low.ensures c.args.witness.now _ _ c.args.z c.mate.ensures c.put_place.ensures c.put_place-2.ensures
