-- `walk::join` meets its contract. Assumes nothing.
use native.Mathlib.Omega.{arith}
use Rattle.components.specs.Walking.{joinable, unites_at}
use Rattle.components.proofs.walk.join.Goals as goal

pub top-requires : goal.top-requires
top-requires c = let r = joinable c.requires.0 c.requires.1 in omega arith

pub offset_bounds-shifts-section : goal.offset_bounds-shifts-section
offset_bounds-shifts-section c = let r = joinable c.requires.0 c.requires.1 in omega arith

pub bounds-shifts-section : goal.bounds-shifts-section
bounds-shifts-section c = (joinable c.requires.0 c.requires.1).section

pub bottom-requires : goal.bottom-requires
bottom-requires c = let r = joinable c.requires.0 c.requires.1 in (c.requires.1.stands, r.shift, r.few)

pub unite-requires : goal.unite-requires
unite-requires c = let r = joinable c.requires.0 c.requires.1 in (c.requires.1.falls, omega arith, omega arith)

pub shape_of-parent : goal.shape_of-parent
shape_of-parent c = c.unite.ensures.united.long

pub returns : goal.returns
returns c = unites_at _ c.requires.1 c.top.ensures c.bottom.ensures c.unite.ensures
