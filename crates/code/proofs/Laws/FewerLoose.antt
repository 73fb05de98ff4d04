-- Fewer places than a fetch list has leave a loose block.
use Rattle.std.specs.Prelude.{List, ℕ, ◌*◌, ◌<◌, length, replicate}
use Rattle.plan.specs.Layout.{Layout, Valid}
use Rattle.code.specs.Codewords.{Agrees, TwoOrMore}
use Rattle.code.specs.FetchList.{less, FetchList}
use Rattle.code.specs.Laws.Forest.{Erased}
use Rattle.code.proofs.Laws.CycleLaws.{two}
use Rattle.code.proofs.Laws.Closings.{erased_less}
use Rattle.code.proofs.Laws.Pairs.{zero_agrees}
use Rattle.code.proofs.Laws.Fetched.{fewer_leave}

-- with fewer places than a fetch list has taken away the zero block is loose
pub fewer_loose : (L : Layout) (ok : Valid L) {E F : List ℕ} (p : FetchList L E F) → Erased L E → (G : List ℕ) → length G < length F
    → TwoOrMore (Agrees L (less E G) (replicate (L.n * L.t) 0))
fewer_loose L ok {E} p er G h =
    let c = fewer_leave L ok p er G h in
    two L ok (less E G) (replicate (L.n * L.t) 0) (replicate (L.n * L.t) 0) c.0 (erased_less G er) c.1 (zero_agrees L ok (less E G))
