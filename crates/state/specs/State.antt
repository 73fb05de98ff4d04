-- The state of a job: its plan, its block and its marks (01, "The job and its sheet").
use Rattle.std.specs.Prelude.{Bool, true, List, ℕ, ◌*◌, replicate}
use Rattle.plan.specs.Plans.{layout_of}
use Rattle.plan.specs.declared.Plan.{Plan}
use Rattle.code.specs.Marks.{mark_bytes}

-- the plan or none, and under a plan its n × t symbols and its mark bytes
pub record State : Type 0 where
  pub planned : Bool
  pub plan : Plan
  pub block : List ℕ
  pub marks : List ℕ

-- "plan, shifts 0, symbols 0, no marks"
unfoldable pub fresh : Plan → State
fresh p = record { planned = true; plan = p; block = replicate (p.n * p.t) 0; marks = replicate (mark_bytes (layout_of p)) 0 }

-- the state with another plan, block or marks
unfoldable pub with_plan : State → Plan → State
with_plan s p = record { planned = true; plan = p; block = s.block; marks = s.marks }

unfoldable pub with_block : State → List ℕ → List ℕ → State
with_block s v m = record { planned = true; plan = s.plan; block = v; marks = m }
