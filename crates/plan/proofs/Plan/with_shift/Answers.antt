-- `Plan::with_shift` meets its contract. Assumes nothing.
use Rattle.plan.specs.Plans.{raw_plan, with_shift}
use lib.ListN.{length}
use mathlib.Core.Path.{◌≡◌, ap, sym}
use native.Mathlib.Omega.{arith}
use lib.Seq.{set_out}
use borrow.Author.Rules.{rules}
use Rattle.plan.proofs.Plan.with_shift.Goals as goal

pub returns-then-j-ge32 : goal.returns-then-j-ge32
unfolding with_shift
returns-then-j-ge32 c =
    let l : length c.args.self.shifts ≡ 32 = search rules in
    ap (raw_plan _ _) (sym (set_out _ _ _ (omega arith)))

pub returns : goal.returns
unfolding with_shift
returns c = search rules
