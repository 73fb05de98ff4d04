-- Labels: the lowest row of each row's component, computed place by place. They make "connected" decidable.
use Rattle.std.specs.Prelude.{cond, ◌||◌, List, [], ◌∷◌, ℕ, min, eqb}
use Rattle.math.specs.Members.{keep}
use Rattle.plan.specs.Layout.{Layout, top, bottom}
use Rattle.code.specs.Places.{rows}

-- x, but the lower of a and b where x is one of them
unfoldable pub merge : ℕ → ℕ → ℕ → ℕ
merge a b x = cond (eqb x a || eqb x b) (min a b) x

-- the lowest row of the component of row r
unfoldable pub label : Layout → List ℕ → ℕ → ℕ
label L [] r = r
label L (c ∷ es) r = merge (label L es (top L c)) (label L es (bottom L c)) (label L es r)

-- the rows with the label of r
unfoldable pub component_of : Layout → List ℕ → ℕ → List ℕ
component_of L E r = keep (λ s. eqb (label L E s) (label L E r)) (rows L)
