-- `listed` meets its contract: piece after piece. Assumes nothing.
use Rattle.std.proofs.Common.{◌<◌, length, arith}
use Rattle.pieces.specs.DecimalLaws.{length_decimal_5}
use Rattle.lines.proofs.LinesLaws.{begun, more, more_list, ended}
use Rattle.lines.proofs.listed.Goals as goal

pub put_number-b-requires : goal.put_number-b-requires
put_number-b-requires c =
    let w = c.put_word-a.ensures in
    let small : length c.args.list.now < 100000 = omega (arith, c.requires) in
    omega (arith, c.requires, w.past, w.long, length_decimal_5 (length c.args.list.now) small)

pub put_list-c-requires : goal.put_list-c-requires
put_list-c-requires c =
    let w = c.put_word-a.ensures in
    let p = c.put_number-b.ensures in
    let small : length c.args.list.now < 100000 = omega (arith, c.requires) in
    omega (arith, c.requires, w.past, w.long, p.past, p.long, length_decimal_5 (length c.args.list.now) small)

pub finish-requires : goal.finish-requires
finish-requires c =
    let w = c.put_word-a.ensures in
    let p = c.put_number-b.ensures in
    let q = c.put_list-c.ensures in
    let small : length c.args.list.now < 100000 = omega (arith, c.requires) in
    omega (arith, c.requires, w.past, w.long, p.past, p.long, q.upper_bound, q.appends.long, length_decimal_5 (length c.args.list.now) small)

pub returns : goal.returns
returns c =
    let w = c.put_word-a.ensures in
    let p = c.put_number-b.ensures in
    let q = c.put_list-c.ensures in
    ended (more_list _ (more _ (begun w) p) q.appends) c.finish.ensures
