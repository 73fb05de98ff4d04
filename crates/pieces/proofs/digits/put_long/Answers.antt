-- `put_long` meets its contract: the digits, as many as the width. Assumes nothing.
use native.Mathlib.Omega.{arith}
use Rattle.pieces.specs.DecimalLaws.{length_decimal_is}
use Rattle.pieces.specs.PiecesLaws.{appends_digits}
use Rattle.pieces.proofs.digits.put_long.Goals as goal

pub spell-requires : goal.spell-requires
spell-requires c = omega (arith, length_decimal_is c.args.n)

pub returns : goal.returns
returns c = appends_digits _ _ _ _ _ c.width-k.ensures.value c.spell.ensures.line_after c.spell.auto.line c.spell.ensures.line_unchanged
