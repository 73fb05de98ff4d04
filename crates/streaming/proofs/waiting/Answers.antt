-- The part that waits.
use Rattle.stream.proofs.WorksLaws.{front_part, front_long}
use Rattle.streaming.proofs.waiting.Goals as goal

pub slice_bounds-result-end : goal.slice_bounds-result-end
slice_bounds-result-end c = front_long _ _ _ c.min-filled.ensures

pub returns : goal.returns
returns c = front_part _ _ _ c.min-filled.ensures
