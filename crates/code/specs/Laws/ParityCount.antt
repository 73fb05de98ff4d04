-- T8, the count: the parity places are the spanning forest of all places, so they number 2t - g (Theorem 2 of 002).
use Rattle.std.specs.Prelude.{List, ℕ}
use Rattle.plan.specs.Layout.{Layout}
use Rattle.code.specs.Places.{places}
use Rattle.code.specs.Laws.Spanning.{spanning}
use Rattle.code.specs.Laws.Closings.{closings}

-- the parity places, rising
unfoldable pub parities : Layout → List ℕ
parities L = spanning L (places L)

-- the message places, rising: those that close a cycle of places above them
unfoldable pub messages : Layout → List ℕ
messages L = closings L (places L)
