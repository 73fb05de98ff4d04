-- `put_some` meets its contract: one bit, or a whole byte. Assumes nothing.
use Rattle.std.proofs.Common.{◌≡◌, ◌+◌, ◌-◌, arith, rules}
use Rattle.bits.specs.MarkedLaws.{marked_byte}
use Rattle.bits.proofs.marks.put_some.Goals as goal
use Rattle.bits.proofs.marks.put_some.Goals.{then-on, else-on}

pub returns-clause-marked : goal.returns-clause-marked
returns-clause-marked c =
    let a = c.args in
    let e : a.at + 8 - a.at ≡ 8 = omega arith in
    elim c.if-on.branch [
      | then-on w ↦ rw (e, w.marks-is, w.if-on.true) (marked_byte a.marks.now a.at 1 (omega arith) (omega arith) (omega arith) (search rules))
      | else-on w ↦ rw (e, w.marks-is, w.if-on.false) (marked_byte a.marks.now a.at 0 (omega arith) (omega arith) (omega arith) (search rules))
    ]
