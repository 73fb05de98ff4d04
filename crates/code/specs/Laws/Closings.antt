-- The places that close a cycle of places above them: what a spanning forest leaves out. They are the fetch list, and of all places they are the message places.
use Rattle.std.specs.Prelude.{List, ℕ}
use Rattle.plan.specs.Layout.{Layout}
use Rattle.code.specs.FetchList.{less}
use Rattle.code.specs.Laws.Spanning.{spanning}

-- ---- the places that close a cycle

unfoldable pub closings : Layout → List ℕ → List ℕ
closings L E = less E (spanning L E)
