use Rattle.std.proofs.Common.{add-one, arith, get_or, take-suc, take_all}
use Rattle.pieces.specs.DecimalLaws.{length_decimal_64}
use Rattle.lines.proofs.LinesLaws.{begun, more, ended}
use Rattle.lines.proofs.numbered.Goals as goal

pub loop-n-init : goal.loop-n-init
loop-n-init c = record { short = omega (arith, c.put_word-to.ensures.past); put = begun c.put_word-to.ensures }

pub put_number-to-requires : goal.put_number-to-requires
put_number-to-requires c =
    let digits = length_decimal_64 (get_or c.args.numbers.now c.loop-n.n-index 0) (c.type_inv.numbers c.loop-n.n-index).fits in
    omega (arith, c.put_word-to.ensures.long, digits)

pub loop-n-preserved : goal.loop-n-preserved
loop-n-preserved c =
    let digits = length_decimal_64 (get_or c.args.numbers.now c.loop-n.n-index 0) (c.type_inv.numbers c.loop-n.n-index).fits in
    record {
      short = omega (arith, c.put_number-to.ensures.past, digits);
      put = rw (add-one c.loop-n.n-index, take-suc c.args.numbers.now c.loop-n.n-index 0 c.loop-n-test.true) (more _ c.loop-n.invariant.put c.put_number-to.ensures);
    }

pub returns : goal.returns
returns c = record {
  appends = ended (rw (take_all c.loop-n.n-index c.args.numbers.now c.loop-n-test.false) at c.loop-n.invariant.put) c.finish.ensures;
  upper_bound = omega (arith, c.finish.ensures.past);
}
