-- The tally less the weight at hand is the other's, and the row says the place.
use mathlib.Core.Path.{refl}
use native.Mathlib.Omega.{arith}
use Rattle.cycle.specs.Walks.{mate_row, mate_room, mate_few, mate_shift, mate_place, mate}
use Rattle.cycle.proofs.walk.mate.Goals as goal

pub bounds-tally-r : goal.bounds-tally-r
bounds-tally-r c = omega (arith, mate_row c.requires, c.requires.long)

pub overflow_cast-section : goal.overflow_cast-section
overflow_cast-section c = omega (arith, mate_few c.requires)

pub overflow_sub-section : goal.overflow_sub-section
overflow_sub-section c = omega (arith, mate_room c.requires)

pub overflow_sub-section-2 : goal.overflow_sub-section-2
overflow_sub-section-2 c = omega (arith, mate_room c.requires)

pub offset_bounds-shifts-section : goal.offset_bounds-shifts-section
offset_bounds-shifts-section c = omega (arith, mate_few c.requires)

pub bounds-shifts-section : goal.bounds-shifts-section
bounds-shifts-section c = (mate_shift c.requires refl).0

pub overflow_cast-p : goal.overflow_cast-p
overflow_cast-p c = omega (arith, (mate_shift c.requires refl).1, c.requires.good.t_max)

pub beside-offset-requires : goal.beside-offset-requires
beside-offset-requires c = ((mate_shift c.requires refl).1, mate_row c.requires, c.requires.good.t_max)

pub overflow_mul-result : goal.overflow_mul-result
overflow_mul-result c = omega (arith, mate_place c.requires refl c.beside-offset.ensures)

pub overflow_add-result : goal.overflow_add-result
overflow_add-result c = omega (arith, mate_place c.requires refl c.beside-offset.ensures)

pub overflow_cast-result : goal.overflow_cast-result
overflow_cast-result c = omega (arith, mate_place c.requires refl c.beside-offset.ensures)

pub returns : goal.returns
returns c = mate c.requires refl c.beside-offset.ensures refl
