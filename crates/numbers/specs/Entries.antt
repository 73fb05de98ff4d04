-- What each C entry promises: the number of an answer of the library's entry of the same name, by 01's table, and that answer's values.
-- p the plan; v the block, m the marks, w the witness list, d the message, l the fetch list, each as lent; v', w', d', l' as they are left; number the result; count and the
-- figures as they are left in the out parameters, which are written in every case.
use Rattle.refusals.specs.declared.Refusal.{Refusal}
use Rattle.std.specs.Prelude.{◌≡◌, ◌≢◌, List, ℕ, Result}
use Rattle.refusals.specs.Refusals.{check_number, count_value, Check}
use Rattle.plan.specs.Plans.{plan_in, layout_of, plan_check}
use Rattle.plan.specs.declared.Plan.{Plan}
use Rattle.code.specs.Figures.{Figures}
use Rattle.answers.specs.Answers.{recovery_number, recovery_count, reading_number}
use Rattle.promises.specs.Promises.{Recovers, Encodes, Reads, Fetches}
use Rattle.answers.specs.declared.Recovery.{Recovery}
use Rattle.answers.specs.declared.Reading.{Reading}
use Rattle.numbers.specs.declared.Made.{Made}

-- fumizhaki_plan_of, _straight, _powers, _ruler: the constructor's answer by its number, with its plan; a refusal's plan is all zeros
unfoldable pub numbered : Result Plan Refusal → Made
numbered m = record { answer = check_number m; plan = plan_in m }

-- fumizhaki_figures: the number of what refuses the plan, and the figures; all four are 0 where the plan is refused
pub record FiguresOut (p : Plan) (number parity pair neighbour distance : ℕ) : Type 0 where
  pub number_is : number ≡ check_number (plan_check p)
  pub figures_are : number ≡ 0 → Figures (layout_of p) parity pair neighbour distance
  pub refused_zeros : number ≢ 0 → (parity ≡ 0) × (pair ≡ 0) × (neighbour ≡ 0) × (distance ≡ 0)

-- fumizhaki_recover: the number of an answer that keeps recover's promise, and its count, which is 0 unless the number is 5 or 6
pub record RecoverOut (p : Plan) (v m w : List ℕ) (number count : ℕ) (v' w' : List ℕ) : Type 0 where
  pub answer : Recovery
  pub keeps : Recovers p v m w answer v' w'
  pub number_is : number ≡ recovery_number answer
  pub count_is : count ≡ recovery_count answer

-- fumizhaki_encode: the number of an answer that keeps encode's promise
pub record EncodeOut (p : Plan) (d v : List ℕ) (number : ℕ) (v' : List ℕ) : Type 0 where
  pub answer : Check
  pub keeps : Encodes p d v answer v'
  pub number_is : number ≡ check_number answer

-- fumizhaki_message_of: the number of an answer that keeps message_of's promise
pub record MessageOut (p : Plan) (v d : List ℕ) (number : ℕ) (d' : List ℕ) : Type 0 where
  pub answer : Reading
  pub keeps : Reads p v d answer d'
  pub number_is : number ≡ reading_number answer

-- fumizhaki_fetch: the number of an answer that keeps fetch's promise, and its count, which is 0 after a refusal
pub record FetchOut (p : Plan) (m l : List ℕ) (number count : ℕ) (l' : List ℕ) : Type 0 where
  pub answer : Result ℕ Refusal
  pub keeps : Fetches p m l answer l'
  pub number_is : number ≡ check_number answer
  pub count_is : count ≡ count_value answer
