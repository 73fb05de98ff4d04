use Rattle.std.proofs.Common.{◌<◌, arith}
use Rattle.pieces.specs.Pieces.{fields}
use Rattle.pieces.specs.DecimalLaws.{length_decimal_5}
use Rattle.pieces.specs.PiecesLaws.{appends_none, appends_entry}
use Rattle.pieces.proofs.put_list.Goals as goal

pub loop-n-init : goal.loop-n-init
unfolding fields
loop-n-init c = record { short = omega arith; put = appends_none _ _ }

pub put_number-to-requires : goal.put_number-to-requires
put_number-to-requires c =
    let small : c.from.result < 100000 = omega (arith, c.type_inv.list c.loop-n.n-index) in
    omega (arith, length_decimal_5 c.from.result small)

pub loop-n-preserved : goal.loop-n-preserved
loop-n-preserved c =
    let small : c.from.result < 100000 = omega (arith, c.type_inv.list c.loop-n.n-index) in
    record {
      short = omega (arith, length_decimal_5 c.from.result small, c.put_number-to.ensures.past);
      put = appends_entry c.args.list.now c.loop-n.n-index (omega arith) c.loop-n.invariant.put (rw c.from.ensures at c.put_number-to.ensures);
    }
