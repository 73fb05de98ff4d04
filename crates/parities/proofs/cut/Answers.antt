-- The tables are at the fronts of what is lent.
use Rattle.tables.specs.Zeros.{front_long, zeros_room}
use Rattle.parities.specs.Settling.{cut_blank, cut_room}
use Rattle.parities.proofs.cut.Goals as goal

pub slice_bounds-settle_parities-end : goal.slice_bounds-settle_parities-end
slice_bounds-settle_parities-end c = zeros_room c.requires.cut.sum_zeros

pub slice_bounds-settle_parities-end-2 : goal.slice_bounds-settle_parities-end-2
slice_bounds-settle_parities-end-2 c = front_long _ _ (zeros_room c.requires.cut.sum_zeros)

pub slice_bounds-settle_parities-end-3 : goal.slice_bounds-settle_parities-end-3
slice_bounds-settle_parities-end-3 c = zeros_room c.requires.cut.tally_zeros

pub slice_bounds-settle_parities-end-4 : goal.slice_bounds-settle_parities-end-4
slice_bounds-settle_parities-end-4 c = front_long _ _ (zeros_room c.requires.cut.tally_zeros)

pub slice_bounds-settle_parities-end-6 : goal.slice_bounds-settle_parities-end-6
slice_bounds-settle_parities-end-6 c = front_long _ _ c.requires.cut.queue_room

pub slice_bounds-settle_parities-end-8 : goal.slice_bounds-settle_parities-end-8
slice_bounds-settle_parities-end-8 c = front_long _ _ c.requires.cut.place_room

pub slice_bounds-settle_parities-end-10 : goal.slice_bounds-settle_parities-end-10
slice_bounds-settle_parities-end-10 c = front_long _ _ c.requires.cut.value_room

pub settle_parities-requires : goal.settle_parities-requires
settle_parities-requires c = record { sealable = c.requires.sealable; blank = cut_blank c.requires.cut; room = cut_room c.requires.cut }
