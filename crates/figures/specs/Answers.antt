-- What `figures` promises of its answer (01, "Families and figures" and "What is turned away").
-- Main definitions: said_by, Answered.
use Rattle.std.specs.Prelude.{◌≡◌, List, [], ◌∷◌, ℕ, get_or, Ok, Err, Result}
use Rattle.refusals.specs.Refusals.{number_of, check_number}
use Rattle.refusals.specs.declared.Refusal.{Refusal}
use Rattle.plan.specs.Plans.{layout_of, plan_check}
use Rattle.plan.specs.declared.Plan.{Plan}
use Rattle.code.specs.Figures.{Figures}
use Rattle.figures.specs.declared.Four.{Four}

-- 01's number of an answer, and its values: "`figures` and the four in the order above"
pub record Said : Type 0 where
  pub number : ℕ
  pub values : List ℕ

abbrev pub said_by : Result Four Refusal → Said
said_by (Ok f) = record { number = 0; values = f.parity ∷ f.pair ∷ f.neighbour ∷ f.distance ∷ [] }
said_by (Err x) = record { number = number_of x; values = [] }

-- value i of an answer, from 0
abbrev pub value : Result Four Refusal → ℕ → ℕ
value a i = get_or (said_by a).values i 0

-- the answer for a plan: refusals 1 and 2 of the plan, else its figures
pub record Answered (p : Plan) (a : Result Four Refusal) : Type 0 where
  pub good : plan_check p ≡ Ok tt → (f : Four) × (a ≡ Ok f) × Figures (layout_of p) f.parity f.pair f.neighbour f.distance
  pub refused : (x : Refusal) → plan_check p ≡ Err x → a ≡ Err x
  pub number : (said_by a).number ≡ check_number (plan_check p)
  pub values : plan_check p ≡ Ok tt → Figures (layout_of p) (value a 0) (value a 1) (value a 2) (value a 3)
