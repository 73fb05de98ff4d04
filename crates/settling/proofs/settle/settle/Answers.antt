-- `settle::settle` meets its contract. Assumes nothing.
use mathlib.Core.Path.{refl}
use native.Mathlib.Omega.{arith}
use Rattle.settling.specs.Takes.{one_long, one_small, one_shift, one_place, one_other, one_rows, takes}
use Rattle.settling.proofs.settle.settle.Goals as goal

pub bounds-tally-r : goal.bounds-tally-r
bounds-tally-r c = (one_long c.requires).1

pub bounds-sum-r : goal.bounds-sum-r
bounds-sum-r c = (one_long c.requires).0

pub overflow_sub-j : goal.overflow_sub-j
overflow_sub-j c = omega (arith, one_small c.requires)

pub bounds-shifts-j : goal.bounds-shifts-j
bounds-shifts-j c = (one_shift c.requires refl).0

pub beside-met-requires : goal.beside-met-requires
beside-met-requires c = ((one_shift c.requires refl).1, c.requires.row, c.requires.good.t_max)

pub overflow_cast-place : goal.overflow_cast-place
overflow_cast-place c = omega (arith, one_place c.requires refl c.beside-met.ensures)

pub remove-rest-requires : goal.remove-rest-requires
remove-rest-requires c = one_rows c.requires refl c.beside-met.ensures refl

pub overflow_cast-result : goal.overflow_cast-result
overflow_cast-result c = omega (arith, one_other c.requires refl c.beside-met.ensures refl)

pub returns-clause-takes : goal.returns-clause-takes
returns-clause-takes c = takes c.requires refl c.beside-met.ensures refl refl c.remove-rest.ensures
