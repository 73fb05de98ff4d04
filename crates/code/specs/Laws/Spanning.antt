-- A spanning forest of any erasures: the places whose rows the places above them do not connect.
use Rattle.std.specs.Prelude.{cond, ℕ, eqb}
use mathlib.Core.List.{List, [], ◌∷◌}
use Rattle.plan.specs.Layout.{Layout, top, bottom}
use Rattle.code.specs.Laws.Labels.{label}

unfoldable pub spanning : Layout → List ℕ → List ℕ
spanning L [] = []
spanning L (c ∷ cs) = cond (eqb (label L cs (top L c)) (label L cs (bottom L c))) (spanning L cs) (c ∷ spanning L cs)
