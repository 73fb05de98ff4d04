-- The figures are fixed by the layout: each of the four is one number. The neighbour figure is no less than the pair figure.
-- Main results: least_once, figures_unique, pair_le_neighbour.
use Rattle.std.specs.Prelude.{◌≡◌, ℕ, ◌≤◌, length}
use Rattle.std.proofs.Common.{sym, ◌∙◌, ap, le_antisymm}
use Rattle.plan.specs.Layout.{Layout}
use Rattle.code.specs.Figures.{Least, Figures}
use Rattle.code.proofs.Laws.Carrying.{lists_unique}

-- the least number with a property is one
pub least_once : {P : ℕ → Type 0} {x y : ℕ} → Least P x → Least P y → x ≡ y
least_once {P} {x} {y} p q = le_antisymm (p.least y q.has) (q.least x p.has)

-- parity places, pair, neighbour, distance
pub figures_unique : {L : Layout} {a b c d a' b' c' d' : ℕ} → Figures L a b c d → Figures L a' b' c' d' → (a ≡ a') × (b ≡ b') × (c ≡ c') × (d ≡ d')
figures_unique f g =
    let p = f.parity_places.1 in
    let q = g.parity_places.1 in (
      sym p.1 ∙ ap length (lists_unique p.0 q.0) ∙ q.1,
      least_once f.pair_figure g.pair_figure,
      least_once f.neighbour_figure g.neighbour_figure,
      least_once f.distance_is g.distance_is,
    )

-- neighbours are a pair
pub pair_le_neighbour : {L : Layout} {a b c d : ℕ} → Figures L a b c d → b ≤ c
pair_le_neighbour {c = c} f =
    let n = f.neighbour_figure.has in
    f.pair_figure.least c (record { i = n.i; j = n.j; related = n.related.pair; value = n.value })
