-- The parts of the answer put together.
-- Main results: pair_least, near_least, figures_are, answered_good, answered_not, figures_not_eleven.
use Rattle.std.specs.Prelude.{◌≡◌, ◌≢◌, List, ℕ, ◌-◌, ◌*◌, ◌/◌, ◌≤◌, ◌<◌, Ok, Err, Result}
use Rattle.std.proofs.Math.Path.{refl, sym, ap}
use Rattle.std.proofs.Common.{◌∙◌, subst}
use Rattle.std.proofs.Math.Logic.{inl}
use native.Mathlib.Omega.{arith}
use Rattle.refusals.specs.Refusals.{check_number}
use Rattle.refusals.proofs.RefusalLaws.{not_eleven, pass_not_stop, stop_same}
use Rattle.refusals.specs.declared.Refusal.{Refusal}
use Rattle.math.specs.MembersLaws.{∈_up_to, length_up_to}
use Rattle.bounds.specs.Bounds.{max_t}
use Rattle.plan.specs.Layout.{layout, divisor}
use Rattle.plan.specs.Plans.{layout_of, plan_check}
use Rattle.plan.specs.declared.Plan.{Plan}
use Rattle.plan.specs.GoodPlan.{GoodPlan, plan_valid}
use Rattle.code.specs.Figures.{Least, Pair, Neighbours, Capability, NonzeroWeight, Figures}
use Rattle.code.proofs.Theorems.{parity_count}
use Rattle.figures.specs.declared.Four.{Four}
use Rattle.figures.specs.Answers.{said_by, Answered}
use Rattle.divisors.specs.Divisors.{Most, Ordered}
use Rattle.divisors.specs.DivisorsLaws.{most_pos, most_le, pairs_all, figure_least}

module _ {n t : ℕ} {s : List ℕ} (u : GoodPlan n t s) where
  -- there are two sections, and they are neighbours
  first_pair : Ordered n 0 1
  first_pair = let l = u.n_min in (omega arith, omega arith)

  first_neighbours : Neighbours (layout n t s) 0 1
  unfolding layout
  first_neighbours =
      let l = u.n_min in
      record { pair = record { first = ∈_up_to (omega arith); second = ∈_up_to (omega arith); differ = omega arith }; next = inl refl }

  -- what the figure asks of the greatest divisor
  figure_asks : {R : ℕ → ℕ → Type 0} {g : ℕ} → Most t s R g → R 0 1 → (0 < g) × (g ≤ t) × (t ≤ max_t)
  figure_asks m r = (most_pos m u.t_min r, most_le m u.t_min, u.t_max)

  pub pair_asks : {g : ℕ} → Most t s (Ordered n) g → (0 < g) × (g ≤ t) × (t ≤ max_t)
  pair_asks m = figure_asks m first_pair

  pub near_asks : {g : ℕ} → Most t s (Neighbours (layout n t s)) g → (0 < g) × (g ≤ t) × (t ≤ max_t)
  near_asks m = figure_asks m first_neighbours

  pub pair_least : {g x : ℕ} → Most t s (Ordered n) g → x ≡ 2 * t / g - 1 → Least (Capability (layout n t s) (Pair (layout n t s))) x
  pair_least m e =
      subst (λ (y : ℕ). Least (Capability (layout n t s) (Pair (layout n t s))) y) (sym e)
      (figure_least n u.t_min (pairs_all n m) first_neighbours.pair)

  pub near_least : {g x : ℕ} → Most t s (Neighbours (layout n t s)) g → x ≡ 2 * t / g - 1
      → Least (Capability (layout n t s) (Neighbours (layout n t s))) x
  near_least m e =
      subst (λ (y : ℕ). Least (Capability (layout n t s) (Neighbours (layout n t s))) y) (sym e)
      (figure_least n u.t_min m first_neighbours)

  pub figures_are : {parity pair near distance : ℕ} → parity ≡ 2 * t - divisor (layout n t s)
      → Least (Capability (layout n t s) (Pair (layout n t s))) pair → Least (Capability (layout n t s) (Neighbours (layout n t s))) near
      → Least (NonzeroWeight (layout n t s)) distance → Figures (layout n t s) parity pair near distance
  unfolding layout
  figures_are e a b c =
      let l = u.n_min in
      let k = length_up_to n in
      let p = parity_count (layout n t s) (plan_valid u) (omega arith) in
      record { parity_places = (p.0, (p.1, p.2 ∙ sym e)); pair_figure = a; neighbour_figure = b; distance_is = c }

module _ (p : Plan) where
  pub answered_good : {f : Four} → plan_check p ≡ Ok tt → Figures (layout p.n p.t p.shifts) f.parity f.pair f.neighbour f.distance
      → Answered p (Ok f)
  unfolding layout_of
  answered_good {f} e h =
      record {
        good = λ z. (f, refl, h);
        refused = λ x z. absurd (pass_not_stop x (sym e ∙ z));
        number = ap check_number (sym e);
        values = λ z. h;
      }

  pub answered_not : {x : Refusal} → plan_check p ≡ Err x → Answered p (Err x)
  answered_not {x} e =
      record {
        good = λ z. absurd (pass_not_stop x (sym z ∙ e));
        refused = λ y z. ap Err (stop_same (sym e ∙ z));
        number = ap check_number (sym e);
        values = λ z. absurd (pass_not_stop x (sym z ∙ e));
      }

-- no answer has the number that is struck from the table (document 02, N4)
pub figures_not_eleven : (a : Result Four Refusal) → (said_by a).number ≢ 11
figures_not_eleven (Ok f) e = omega (arith, e)
figures_not_eleven (Err x) e = not_eleven x e
