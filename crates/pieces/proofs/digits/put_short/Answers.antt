-- `put_short` meets its contract: each digit is put after those of the number's tens, and the last one ends the number. Assumes nothing.
use native.Mathlib.Omega.{arith}
use mathlib.Core.Path.{refl}
use Rattle.pieces.specs.ShortLaws.{leading_start, leading_room, leading_last}
use Rattle.pieces.proofs.digits.put_short.Goals as goal

pub put_digit-a-requires : goal.put_digit-a-requires
put_digit-a-requires c =
    let a = c.args in
    record { tens_value = (omega arith, omega arith); at_in_bounds = leading_room a.n (leading_start a.line.now a.from) (omega arith) (omega arith) (omega arith) }

pub put_digit-b-requires : goal.put_digit-b-requires
put_digit-b-requires c =
    let a = c.args in
    let one = c.put_digit-a.ensures _ _ (leading_start a.line.now a.from) in
    record { tens_value = (omega arith, omega arith); at_in_bounds = leading_room a.n one (omega arith) (omega arith) (omega arith) }

pub put_digit-c-requires : goal.put_digit-c-requires
put_digit-c-requires c =
    let a = c.args in
    let two = c.put_digit-b.ensures _ _ (c.put_digit-a.ensures _ _ (leading_start a.line.now a.from)) in
    record { tens_value = (omega arith, omega arith); at_in_bounds = leading_room a.n two (omega arith) (omega arith) (omega arith) }

pub put_digit-d-requires : goal.put_digit-d-requires
put_digit-d-requires c =
    let a = c.args in
    let three = c.put_digit-c.ensures _ _ (c.put_digit-b.ensures _ _ (c.put_digit-a.ensures _ _ (leading_start a.line.now a.from))) in
    record { tens_value = (omega arith, omega arith); at_in_bounds = leading_room a.n three (omega arith) (omega arith) (omega arith) }

pub bounds-line-d : goal.bounds-line-d
bounds-line-d c =
    let a = c.args in
    let four = c.put_digit-d.ensures _ _ (c.put_digit-c.ensures _ _ (c.put_digit-b.ensures _ _ (c.put_digit-a.ensures _ _ (leading_start a.line.now a.from)))) in
    leading_room a.n four (omega arith) (omega arith) (omega arith)

pub overflow_add-result : goal.overflow_add-result
overflow_add-result c = omega (arith, bounds-line-d c)

pub returns : goal.returns
returns c =
    let a = c.args in
    let four = c.put_digit-d.ensures _ _ (c.put_digit-c.ensures _ _ (c.put_digit-b.ensures _ _ (c.put_digit-a.ensures _ _ (leading_start a.line.now a.from)))) in
    leading_last a.n _ four refl (omega arith) (omega arith) (bounds-line-d c)

pub shape_of-line : goal.shape_of-line
shape_of-line c = (returns c).long
