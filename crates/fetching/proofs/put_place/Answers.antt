-- `put_place` meets its contract. Assumes nothing.
use native.Mathlib.Omega.{arith}
use Rattle.pieces.specs.DecimalLaws.{length_decimal_5}
use Rattle.fetching.specs.Places.{place_none, place_one}
use Rattle.fetching.proofs.put_place.Goals as goal

pub returns-then-bit-eq0 : goal.returns-then-bit-eq0
returns-then-bit-eq0 c = place_none _ _ _ _ c.bit.ensures c.if-bit-eq0.true

pub put_number-requires : goal.put_number-requires
put_number-requires c =
    let p = c.requires in
    omega (arith, p.2, length_decimal_5 c.args.c.0 (omega (arith, p.1)))

pub returns : goal.returns
returns c = place_one _ _ c.bit.ensures c.if-bit-eq0.false c.put_number.ensures
