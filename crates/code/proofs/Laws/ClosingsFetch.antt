-- The places that close a cycle of places above them are a fetch list.
use Rattle.std.specs.Prelude.{List, ℕ}
use Rattle.plan.specs.Layout.{Layout, Valid}
use Rattle.code.specs.FetchList.{FetchList}
use Rattle.code.specs.Laws.Forest.{Erased}
use Rattle.code.specs.Laws.Closings.{closings}
use Rattle.code.proofs.Laws.Closings.{closings_lists, closings_leave, closings_fewest}

pub closings_fetch : (L : Layout) (ok : Valid L) {E : List ℕ} (er : Erased L E) → FetchList L E (closings L E)
closings_fetch L ok er = record { list = closings_lists L ok er; leaves = closings_leave L ok er; fewest = closings_fewest L ok er }
