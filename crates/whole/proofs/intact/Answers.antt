-- The sums are those of the block; where the marks are all 0, the row test decides.
use borrow.Author.Tests.{not-false}
use mathlib.Core.Path.{refl, sym, ◌∙◌}
use Rattle.tables.specs.Zeros.{front_long, zeros_room, zeros_part}
use Rattle.whole.specs.Whole.{summed, sums_same, intact, not_intact}
use Rattle.std.proofs.lemmas.Bool.{not_from_true}
use Rattle.whole.proofs.intact.Goals as goal

pub slice_bounds-syndromes-end : goal.slice_bounds-syndromes-end
slice_bounds-syndromes-end c = zeros_room c.requires.zeros

pub slice_bounds-syndromes-end-2 : goal.slice_bounds-syndromes-end-2
slice_bounds-syndromes-end-2 c = front_long _ _ (zeros_room c.requires.zeros)

pub syndromes-requires : goal.syndromes-requires
syndromes-requires c = (c.requires.lent.0.good, c.requires.lent.1, zeros_part c.requires.zeros)

pub returns-then-not-zero_bytes : goal.returns-then-not-zero_bytes
returns-then-not-zero_bytes c = (summed c.syndromes.ensures _, not_intact refl)

pub slice_bounds-zero_bytes-end : goal.slice_bounds-zero_bytes-end
slice_bounds-zero_bytes-end c = (summed c.syndromes.ensures _).room

pub slice_bounds-zero_bytes-end-2 : goal.slice_bounds-zero_bytes-end-2
slice_bounds-zero_bytes-end-2 c = front_long _ _ (summed c.syndromes.ensures _).room

pub returns : goal.returns
returns c = (summed c.syndromes.ensures _, intact c.requires.lent.0 c.requires.lent.1 (λ i. (c.type_inv.block i).fits) (sym c.zero_bytes.ensures ∙ not-false _ (not_from_true _ c.if-not-zero_bytes.false)) c.syndromes.ensures (sums_same c.syndromes.ensures _) c.zero_bytes-2.ensures)
