-- A plan that nothing refuses, as the functions below the entries are handed it: n, t and the shifts, of which the first n count.
-- Main definition: GoodPlan. Main result: plan_valid.
use Rattle.std.specs.Prelude.{List, ℕ, ◌*◌, ◌≤◌, ◌<◌, length, get_or}
use Rattle.math.specs.MembersLaws.{up_to_∈, rising_up_to}
use Rattle.bounds.specs.Bounds.{min_n, max_n, min_t, max_t, max_places}
use Rattle.plan.specs.Layout.{Valid, layout}

pub record GoodPlan (n t : ℕ) (shifts : List ℕ) : Type 0 where
  pub n_min : min_n ≤ n
  pub n_max : n ≤ max_n
  pub t_min : min_t ≤ t
  pub t_max : t ≤ max_t
  pub places_max : n * t ≤ max_places
  pub long : n ≤ length shifts
  pub below : (j : ℕ) → j < n → get_or shifts j 0 < t

pub plan_valid : {n t : ℕ} {shifts : List ℕ} → GoodPlan n t shifts → Valid (layout n t shifts)
unfolding layout
plan_valid {n} g =
    record {
      positive = g.t_min;
      rising = rising_up_to n;
      inside = λ j m. up_to_∈ n m;
      below = λ j m. g.below j (up_to_∈ n m);
    }
