-- What refuses a plan, and the plan that each constructor makes (01, "What is turned away" and "Families and figures").
-- Main definitions: plan, no_plan, layout_of, plan_check, plan_of, blank_of, straight_of, powers_of, ruler_of, message_count_of.
use Rattle.std.specs.Prelude.{◌&&◌, List, [], map, ℕ, ◌%◌, ◌^◌, leb, eqb, length, take, set, replicate, Ok, Err, Result}
use Rattle.std.specs.Result.{result_unwrap_or}
use Rattle.math.specs.Members.{up_to}
use Rattle.refusals.specs.Refusals.{unless, ◌then◌, Check}
use Rattle.refusals.specs.declared.Refusal.{Refusal}
use Rattle.refusals.specs.declared.Refusal.TheVariants.{Size, Shift, Family}
use Rattle.bounds.specs.Bounds.{min_n, max_n, size_fits, all_below}
use Rattle.shifts.specs.Shifts.{padded}
use Rattle.plan.specs.Layout.{Layout, layout, message_count}
use Rattle.families.specs.Families.{powers_need}
use Rattle.ruler.specs.Ruler.{ruler_min, ruler_max, ruler_t, ruler_shifts}
use Rattle.plan.specs.declared.Plan.{Plan}

-- the record of a plan, by its array: every other definition builds one by this
abbrev pub raw_plan : ℕ → ℕ → List ℕ → Plan
raw_plan n t array = record { n = n; t = t; shifts = array }

-- the plan of these shifts
unfoldable pub plan : ℕ → ℕ → List ℕ → Plan
unfolding padded
plan n t shifts = raw_plan n t (padded shifts)

-- no plan: a record of zeros, which every entry refuses as size; C gets it beside a refusal
unfoldable pub no_plan : Plan
unfolding plan
no_plan = plan 0 0 []

-- the plan with p for the shift of section j
unfoldable pub with_shift : Plan → ℕ → ℕ → Plan
with_shift plan j p = raw_plan plan.n plan.t (set plan.shifts j p)

-- the theory's view of a plan
unfoldable pub layout_of : Plan → Layout
unfolding layout
layout_of p = layout p.n p.t p.shifts

-- 2, "not n shifts, or one is t or more"
unfoldable pub shifts_check : ℕ → ℕ → List ℕ → Check
unfolding all_below
shifts_check n t shifts = unless (eqb (length shifts) n) Shift then unless (all_below t shifts) Shift

-- what refuses a plan of n, t and these shifts: 1, then 2
unfoldable pub check_by : ℕ → ℕ → List ℕ → Check
unfolding size_fits shifts_check
check_by n t shifts = unless (size_fits n t) Size then shifts_check n t shifts

-- what refuses a plan, of whose shifts the first n count
unfoldable pub plan_check : Plan → Check
unfolding check_by
plan_check p = check_by p.n p.t (take p.n p.shifts)

-- a constructor's answer: the plan of these shifts, or the refusal
unfoldable pub answered : Check → ℕ → ℕ → List ℕ → Result Plan Refusal
unfolding plan
answered (Ok _) n t shifts = Ok (plan n t shifts)
answered (Err x) n t shifts = Err x

-- the plan of an answer; beside a refusal no plan
abbrev pub plan_in : Result Plan Refusal → Plan
plan_in r = result_unwrap_or r no_plan

-- a plan of these shifts
unfoldable pub plan_of : ℕ → ℕ → List ℕ → Result Plan Refusal
unfolding check_by answered
plan_of n t shifts = answered (check_by n t shifts) n t shifts

-- "n[1] t[2] plan, shifts 0"
unfoldable pub blank_of : ℕ → ℕ → Result Plan Refusal
unfolding size_fits answered
blank_of n t = answered (unless (size_fits n t) Size) n t (replicate n 0)

-- "Straight: p_j = j, needs n at most t." 10 follows 1.
unfoldable pub straight_of : ℕ → ℕ → Result Plan Refusal
unfolding size_fits answered up_to
straight_of n t = answered (unless (size_fits n t) Size then unless (leb n t) Family) n t (up_to n)

-- "Powers: p_j = q to the j, mod t, needs n from 3 to t, q at least 2, t sharing no factor with q nor with q - 1."
unfoldable pub powers_of : ℕ → ℕ → ℕ → Result Plan Refusal
unfolding size_fits answered powers_need up_to
powers_of n t q = answered (unless (size_fits n t) Size then unless (powers_need n t q) Family) n t (map (λ j. q ^ j % t) (up_to n))

-- "Ruler: n from 3 to 14, table I of 002, t and shifts"; the size is judged by n alone
unfoldable pub ruler_of : ℕ → Result Plan Refusal
unfolding answered ruler_t ruler_shifts
ruler_of n = answered (unless (leb min_n n && leb n max_n) Size then unless (leb ruler_min n && leb n ruler_max) Family) n (ruler_t n) (ruler_shifts n)

-- a number that is asked for: what refuses the call, else the number
unfoldable pub count_of : Check → ℕ → Result ℕ Refusal
count_of (Ok tt) k = Ok k
count_of (Err x) k = Err x

-- the message count of a plan: refusals 1 and 2 of the plan, else the number
unfoldable pub message_count_of : Plan → Result ℕ Refusal
unfolding plan_check layout_of message_count count_of
message_count_of p = count_of (plan_check p) (message_count (layout_of p))
