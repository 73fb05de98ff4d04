-- The row sums of the block, all 0 or not.
use Rattle.tables.specs.Zeros.{front_long, zeros_room, zeros_part}
use Rattle.sealing.specs.Reading.{sums_room, sums_same, tells_codeword}
use Rattle.sealing.proofs.rows_clean.Goals as goal

pub slice_bounds-syndromes-end : goal.slice_bounds-syndromes-end
slice_bounds-syndromes-end c = zeros_room c.requires.zeros

pub slice_bounds-syndromes-end-2 : goal.slice_bounds-syndromes-end-2
slice_bounds-syndromes-end-2 c = front_long _ _ (zeros_room c.requires.zeros)

pub syndromes-requires : goal.syndromes-requires
syndromes-requires c = (c.requires.good_plan.0, c.requires.good_plan.1, zeros_part c.requires.zeros)

pub slice_bounds-zero_bytes-end : goal.slice_bounds-zero_bytes-end
slice_bounds-zero_bytes-end c = sums_room c.syndromes.ensures _

pub slice_bounds-zero_bytes-end-2 : goal.slice_bounds-zero_bytes-end-2
slice_bounds-zero_bytes-end-2 c = front_long _ _ (sums_room c.syndromes.ensures _)

pub returns : goal.returns
returns c = tells_codeword _ _ _ _ c.requires.good_plan.1 (λ i. (c.shared_slice_known-2-1.given i).fits) c.syndromes.ensures (sums_same c.syndromes.ensures _) c.zero_bytes.ensures
