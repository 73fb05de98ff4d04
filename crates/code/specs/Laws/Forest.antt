-- What the theorems' proofs speak of beside the definitions: erasures as a rising list of places, forests, erasures above a place.
use Rattle.std.specs.Prelude.{cond, List, [], ◌∷◌, map, ℕ, ◌+◌, ◌-◌, ◌%◌, eqb, ltb, get_or}
use Rattle.math.specs.Gcd.{gcd_all, gap}
use Rattle.math.specs.Members.{◌∈◌, Rising, keep}
use Rattle.plan.specs.Layout.{Layout, top, bottom, divisor}
use Rattle.code.specs.Places.{places}
use Rattle.code.specs.Components.{Connected}

-- a rising list of places
pub record Erased (L : Layout) (E : List ℕ) : Type 0 where
  pub rising : Rising E
  pub inside : (c : ℕ) → c ∈ E → c ∈ places L

-- place by place: the two rows of c are not yet connected by the places that follow it
pub data Forest (L : Layout) : List ℕ → Type 0 where
  forest_none : Forest L []
  forest_more : {c : ℕ} {cs : List ℕ} → ¬ (Connected L cs (top L c) (bottom L c)) → Forest L cs → Forest L (c ∷ cs)

-- the places of E above c
unfoldable pub above : ℕ → List ℕ → List ℕ
above c E = keep (λ d. ltb c d) E

-- the component of a row in the whole graph: top row k by k mod g, bottom row b by (b + the first section's shift) mod g
unfoldable pub class_of : Layout → ℕ → ℕ
class_of L r = cond (ltb r L.t) (r % divisor L) ((r - L.t + L.shift (get_or L.sections 0 0)) % divisor L)

-- The closed form of the parity places. With G the divisor of t and the differences to the last section's shift, over the sections from one on,
-- the message places of a section that is not the last are its first t - G' + G offsets, G' being the divisor of the sections after it.
unfoldable pub last_of : List ℕ → ℕ
last_of [] = 0
last_of (j ∷ []) = j
last_of (j ∷ (i ∷ is)) = last_of (i ∷ is)

unfoldable pub divisor_from : Layout → List ℕ → ℕ
divisor_from L js = gcd_all L.t (map (λ j. gap (L.shift j) (L.shift (last_of L.sections))) js)

unfoldable pub run : Layout → ℕ → List ℕ → ℕ
run L j [] = 0
run L j (i ∷ is) = L.t - divisor_from L (i ∷ is) + divisor_from L (j ∷ (i ∷ is))

unfoldable pub run_in : Layout → List ℕ → ℕ → ℕ
run_in L [] j = 0
run_in L (i ∷ is) j = cond (eqb i j) (run L i is) (run_in L is j)

unfoldable pub run_of : Layout → ℕ → ℕ
run_of L j = run_in L L.sections j
