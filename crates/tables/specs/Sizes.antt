-- The layout of a plan's numbers within the sizes: it is valid, its places are all below n × t, and its parts.
use Rattle.std.specs.Prelude.{◌≡◌, List, ℕ, ◌*◌, ◌<◌}
use Rattle.std.proofs.Math.Path.{refl}
use Rattle.math.specs.Members.{◌∈◌, up_to}
use Rattle.math.specs.MembersLaws.{up_to_∈, ∈_up_to}
use Rattle.plan.specs.Layout.{layout}
use Rattle.plan.specs.GoodPlan.{GoodPlan}
use Rattle.code.specs.Places.{places}
use Rattle.code.proofs.Places.{places_all}

pub layout_t : (n t : ℕ) (shifts : List ℕ) → (layout n t shifts).t ≡ t
unfolding layout
layout_t n t shifts = refl

module _ {n t : ℕ} {shifts : List ℕ} (s : GoodPlan n t shifts) where
  pub good_places : places (layout n t shifts) ≡ up_to (n * t)
  unfolding layout
  good_places = places_all (layout n t shifts) refl s.t_min

  pub ∈_good : {c : ℕ} → c < n * t → c ∈ places (layout n t shifts)
  ∈_good h = rw good_places (∈_up_to h)

  pub good_∈ : {c : ℕ} → c ∈ places (layout n t shifts) → c < n * t
  good_∈ m = up_to_∈ (n * t) (rw good_places at m)
