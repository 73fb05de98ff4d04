-- `Plan::ruler` meets its contract: each answer by the test that gives it. Assumes nothing.
use Rattle.plan.proofs.Answers.{ruler_few, ruler_many, ruler_below, ruler_above, ruler_made}
use mathlib.Core.Path.{ap, ◌∙◌}
use Rattle.std.specs.Prelude.{Ok}
use native.Mathlib.Omega.{arith}
use Rattle.plan.proofs.Plan.ruler.Goals as goal

pub returns-then-n-lt-MIN_N : goal.returns-then-n-lt-MIN_N
returns-then-n-lt-MIN_N c =
    ruler_few _ (omega arith)

pub returns-then-n-gt-MAX_N : goal.returns-then-n-gt-MAX_N
returns-then-n-gt-MAX_N c =
    ruler_many _ (omega arith)

pub returns-then-n-lt-MIN_N-2 : goal.returns-then-n-lt-MIN_N-2
returns-then-n-lt-MIN_N-2 c =
    ruler_below _ (omega arith) (omega arith)

pub returns-then-n-gt-MAX_N-2 : goal.returns-then-n-gt-MAX_N-2
returns-then-n-gt-MAX_N-2 c =
    ruler_above _ (omega arith) (omega arith)

pub returns : goal.returns
returns c =
    ap Ok (c.good.ensures _ c.shifts_of.ensures)
    ∙ ruler_made _ c.t_of.ensures (omega arith) (omega arith)
