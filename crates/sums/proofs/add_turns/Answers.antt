-- `sums::add_turns` meets its contract: one section or two, as they stand in the block.
use Prim.Native.Nat.{◌+◌}
use native.Mathlib.Omega.{arith}
use Rattle.sums.specs.SumLaws.{one_more, sections_fit, section_part, turns_one, turns_two}
use Rattle.sums.proofs.add_turns.Goals as goal

pub slice_bounds-add_two-end-then-j-n : goal.slice_bounds-add_two-end-then-j-n
slice_bounds-add_two-end-then-j-n c = omega (arith, sections_fit c.args.n c.args.t c.args.j c.args.a c.if-j-n.true c.requires.j_lt_n.1, c.requires.good_plan.1)

pub returns-then-j-n : goal.returns-then-j-n
returns-then-j-n c =
    turns_two c.args.n c.args.t c.args.j c.args.shifts.now c.args.block.now c.requires.good_plan.0.t_min _ _ c.if-j-n.true
    (section_part c.args.t c.args.j c.args.a c.args.block.now c.requires.j_lt_n.1)
    (section_part c.args.t (c.args.j + 1) (c.args.a + c.args.t) c.args.block.now (omega (arith, one_more c.args.j c.args.t, c.requires.j_lt_n.1)))
    c.add_two.ensures

pub returns : goal.returns
returns c =
    turns_one c.args.n c.args.t c.args.j c.args.shifts.now c.args.block.now c.requires.good_plan.0.t_min _ c.requires.j_lt_n.0
    (section_part c.args.t c.args.j c.args.a c.args.block.now c.requires.j_lt_n.1)
    c.add_turned.ensures
