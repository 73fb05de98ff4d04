-- Buffers of exactly the lengths of a good plan, and recovery on them.
use Rattle.std.specs.Prelude.{◌≡◌, true, List, ℕ, ◌*◌, length, Ok}
use Rattle.plan.specs.Plans.{layout_of, plan_check}
use Rattle.plan.specs.declared.Plan.{Plan}
use Rattle.code.specs.Marks.{mark_bytes, NoSpare}
use Rattle.state.specs.State.{State}
use Rattle.act.specs.Meaning.{Recovering}

-- a good plan with a block and marks of its own lengths
pub record Whole (p : Plan) (v m : List ℕ) : Type 0 where
  pub good : plan_check p ≡ Ok tt
  pub block_long : length v ≡ p.n * p.t
  pub marks_long : length m ≡ mark_bytes (layout_of p)
  pub spare : NoSpare (layout_of p) m

-- the state of such buffers
abbrev pub whole : Plan → List ℕ → List ℕ → State
whole p v m = record { planned = true; plan = p; block = v; marks = m }

-- recovery on such buffers
pub record Recovered (p : Plan) (v m text v' m' : List ℕ) : Type 0 where
  pub means : Recovering (whole p v m) (whole p v' m') text
  pub spare : NoSpare (layout_of p) m'
