use Rattle.std.proofs.Common.{ℕ, ◌%◌, sym, ap, arith}
use Rattle.std.proofs.Math.Nat.{pow-zero}
use Rattle.math.specs.Members.{up_to}
use Rattle.shifts.specs.ShiftsLaws.{padded_none, mapped_more, power_more}
use Rattle.shifts.proofs.powers.Goals as goal

pub loop-i-init : goal.loop-i-init
unfolding up_to
loop-i-init c = record { next = ap (λ (x : ℕ). x % c.args.t) (sym (pow-zero c.args.q)); held = padded_none }

pub loop-i-preserved : goal.loop-i-preserved
loop-i-preserved c = record {
  next = power_more _ _ _ _ c.loop-i.invariant.next;
  held = mapped_more _ _ _ c.loop-i.invariant.held c.loop-i.invariant.next (omega arith);
}
