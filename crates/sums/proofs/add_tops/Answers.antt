use Prim.Native.Nat.{◌-◌}
use native.Mathlib.Nat.{add-mul}
use native.Mathlib.Omega.{arith}
use lib.ListN.{length, take, drop}
use Rattle.sums.specs.SumLaws.{straight, added_none, added_more, rest_symbol}
use Rattle.sums.proofs.add_tops.Goals as goal

pub loop-j-init : goal.loop-j-init
loop-j-init c = (omega arith, omega arith, added_none (straight c.args.t c.args.block.now) c.args.top.now)

pub loop-j-preserved : goal.loop-j-preserved
loop-j-preserved c = (omega (arith, c.add_next-k.ensures.most), omega (arith, add-mul c.loop-j.j c.add_next-k.result c.args.t), added_more (straight c.args.t c.args.block.now) (straight c.args.t (take (length c.args.block.now - c.loop-j.a) (drop c.loop-j.a c.args.block.now))) c.loop-j.j c.add_next-k.result c.loop-j.invariant.2 c.add_next-k.ensures.sums (λ m i h k. rest_symbol c.args.t c.loop-j.j c.loop-j.a m i c.args.block.now c.loop-j.invariant.1))
