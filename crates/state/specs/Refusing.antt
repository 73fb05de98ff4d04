-- What refuses a command on a state (01, "What is turned away": "In a job: 7, 8, 9, then the others").
use Rattle.std.specs.Prelude.{Bool, true, false, ◌&&◌, ◌+◌, ◌*◌, leb, ltb, Ok}
use Rattle.refusals.specs.Refusals.{unless, ◌then◌, test_of, Check}
use Rattle.refusals.specs.declared.Refusal.TheVariants.{Early, Shift}
use Rattle.plan.specs.Plans.{blank_of, straight_of, powers_of, ruler_of}
use Rattle.commands.specs.declared.Command.{Command}
use Rattle.commands.specs.declared.Command.TheVariants.{NewPlan, SetShift, SetSymbol, MarkOne, MarkRun, Recover, Seal, Show, Figures, Straight, Powers, Ruler, Fetch}
use Rattle.state.specs.State.{State}

-- 9, early: "needs a plan and there is none, or names a section, place or run outside it"; and then the other refusals of a command
unfoldable pub early : Bool → Bool → Check → Check
early planned inside other = unless (planned && inside) Early then other

-- whether a command makes a plan: "01 n[1] t[2] plan"; "0A n[1] t[2] straight, 0B n[1] t[2] q[2] powers, 0C n[1] ruler, each otherwise as 01"
unfoldable pub makes_plan : Command → Bool
makes_plan (NewPlan n t) = true
makes_plan (SetShift j p) = false
makes_plan (SetSymbol c v) = false
makes_plan (MarkOne c) = false
makes_plan (MarkRun c m) = false
makes_plan Recover = false
makes_plan Seal = false
makes_plan (Show c) = false
makes_plan Figures = false
makes_plan (Straight n t) = true
makes_plan (Powers n t q) = true
makes_plan (Ruler n) = true
makes_plan Fetch = false

-- what refuses a command on a state
unfoldable pub refusal_of : State → Command → Check
refusal_of s (NewPlan n t) = test_of (blank_of n t)
refusal_of s (SetShift j p) = early s.planned (ltb j s.plan.n) (unless (ltb p s.plan.t) Shift)
refusal_of s (SetSymbol c v) = early s.planned (ltb c (s.plan.n * s.plan.t)) (Ok tt)
refusal_of s (MarkOne c) = early s.planned (ltb c (s.plan.n * s.plan.t)) (Ok tt)
refusal_of s (MarkRun c m) = early s.planned (leb (c + m) (s.plan.n * s.plan.t)) (Ok tt)
refusal_of s Recover = early s.planned true (Ok tt)
refusal_of s Seal = early s.planned true (Ok tt)
refusal_of s (Show c) = early s.planned (ltb c (s.plan.n * s.plan.t)) (Ok tt)
refusal_of s Figures = early s.planned true (Ok tt)
refusal_of s (Straight n t) = test_of (straight_of n t)
refusal_of s (Powers n t q) = test_of (powers_of n t q)
refusal_of s (Ruler n) = test_of (ruler_of n)
refusal_of s Fetch = early s.planned true (Ok tt)
