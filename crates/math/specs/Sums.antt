-- Sums over a list of numbers. Definitions only; their laws are in SumsLaws.
use Rattle.std.specs.Prelude.{Bool, true, false, List, [], ◌∷◌, ℕ, ◌+◌}
use Rattle.math.specs.Xor.{◌⊕◌}

-- the exclusive or of f over the list
unfoldable pub xor_over : List ℕ → (ℕ → ℕ) → ℕ
xor_over [] f = 0
xor_over (c ∷ cs) f = f c ⊕ xor_over cs f

-- the plain sum of f over the list
unfoldable pub sum_over : List ℕ → (ℕ → ℕ) → ℕ
sum_over [] f = 0
sum_over (c ∷ cs) f = f c + sum_over cs f

-- x where the test holds, else 0
unfoldable pub only : Bool → ℕ → ℕ
only true x = x
only false x = 0
