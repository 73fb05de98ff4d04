-- The rows of the tables are at their fronts.
use Rattle.tables.specs.Zeros.{front_long, zeros_room}
use Rattle.deciding.specs.Attempts.{cut_tables}
use Rattle.deciding.proofs.cut.Goals as goal

pub slice_bounds-attempt-end-3 : goal.slice_bounds-attempt-end-3
slice_bounds-attempt-end-3 c = zeros_room c.requires.cut.tally_zeros

pub slice_bounds-attempt-end-4 : goal.slice_bounds-attempt-end-4
slice_bounds-attempt-end-4 c = front_long _ _ (zeros_room c.requires.cut.tally_zeros)

pub slice_bounds-attempt-end-6 : goal.slice_bounds-attempt-end-6
slice_bounds-attempt-end-6 c = front_long _ _ c.requires.cut.place_room

pub slice_bounds-attempt-end-8 : goal.slice_bounds-attempt-end-8
slice_bounds-attempt-end-8 c = front_long _ _ c.requires.cut.value_room

pub attempt-requires : goal.attempt-requires
attempt-requires c = record { given = c.requires.given; tables = cut_tables c.requires.cut }
