-- Peeling rounds (document 02, N5): how many it takes until no mark is left.
-- Main definition: Rounds.
use Rattle.std.specs.Prelude.{◌≡◌, Bool, not, ◌||◌, List, [], ℕ, zero, suc, eqb, length}
use Rattle.math.specs.Members.{keep}
use Rattle.plan.specs.Layout.{Layout, top, bottom}
use Rattle.code.specs.Places.{meets}
use Rattle.code.specs.Figures.{Least}

-- the places of E on row r
unfoldable pub on_row : Layout → List ℕ → ℕ → List ℕ
on_row L E r = keep (λ c. meets L c r) E

-- place c of E is "alone on one of its rows"
unfoldable pub alone : Layout → List ℕ → ℕ → Bool
alone L E c = eqb (length (on_row L E (top L c))) 1 || eqb (length (on_row L E (bottom L c))) 1

-- "In one round, every mark that is alone on one of its rows at the round's start is settled": the marks that are left
unfoldable pub round : Layout → List ℕ → List ℕ
round L E = keep (λ c. not (alone L E c)) E

-- the marks that are left after k rounds
unfoldable pub after : Layout → ℕ → List ℕ → List ℕ
after L zero E = E
after L (suc k) E = round L (after L k E)

-- "the number of rounds after which no mark is left": the least, as one round more leaves none either
abbrev pub Rounds : Layout → List ℕ → ℕ → Type 0
Rounds L E k = Least (λ j. after L j E ≡ []) k
