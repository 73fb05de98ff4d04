-- The places of a layout (in a plan all of 0 .. n × t - 1: `layout_places`), the rows that each meets, and matrix (1) of 002, which says the same.
-- 01, "Plan, place, row": "Place c = j × t + k is symbol k of section j. It meets two rows. There are 2t rows."
use Rattle.std.specs.Prelude.{◌≡◌, refl, List, ℕ, ◌-◌, ◌*◌, ◌/◌, ◌<◌}
use Rattle.std.proofs.Common.{div-lt_iff_lt-mul}
use Rattle.math.specs.Members.{is_in, up_to}
use Rattle.math.specs.MembersLaws.{∈_is_in, ∈_up_to, up_to_∈, keep_all}
use Rattle.plan.specs.Layout.{Layout, layout}
use Rattle.code.specs.Places.{places}

-- where every section takes part, these are 0 .. n × t - 1
pub places_all : (L : Layout) → L.sections ≡ up_to L.n → 0 < L.t → places L ≡ up_to (L.n * L.t)
unfolding places
places_all L all positive =
    keep_all (λ c. is_in (c / L.t) L.sections) (up_to (L.n * L.t))
    (λ c m. rw all (∈_is_in (∈_up_to ((div-lt_iff_lt-mul positive).1 (up_to_∈ (L.n * L.t) m)))))

-- as in the layout of a plan
pub layout_places : (n t : ℕ) (shifts : List ℕ) → 0 < t → places (layout n t shifts) ≡ up_to (n * t)
unfolding layout
layout_places n t shifts positive = places_all (layout n t shifts) refl positive
