-- `fetch_line` meets its contract: piece after piece. Assumes nothing.
use Prim.Native.Nat.{◌<◌}
use native.Mathlib.Omega.{arith}
use Rattle.pieces.specs.DecimalLaws.{length_decimal_5}
use Rattle.lines.specs.Lines.{fetch_word}
use Rattle.lines.proofs.LinesLaws.{begun, more, more_list, ended}
use Rattle.fetching.proofs.fetch_line.Goals as goal

pub put_number-b-requires : goal.put_number-b-requires
put_number-b-requires c =
    let w = c.put_word-a.ensures in
    let small : c.args.count < 100000 = omega (arith, c.requires) in
    omega (arith, c.requires, w.past, w.long, length_decimal_5 c.args.count small)

pub put_places-c-requires : goal.put_places-c-requires
put_places-c-requires c =
    let w = c.put_word-a.ensures in
    let p = c.put_number-b.ensures in
    let small : c.args.count < 100000 = omega (arith, c.requires) in
    (c.requires.1, c.requires.2, omega (arith, c.requires, w.past, w.long, p.past, p.long, length_decimal_5 c.args.count small))

pub finish-requires : goal.finish-requires
finish-requires c =
    let w = c.put_word-a.ensures in
    let p = c.put_number-b.ensures in
    let q = c.put_places-c.ensures in
    let small : c.args.count < 100000 = omega (arith, c.requires) in
    omega (arith, c.requires, w.past, w.long, p.past, p.long, q.1, q.0.long, length_decimal_5 c.args.count small)

pub returns : goal.returns
unfolding fetch_word
returns c =
    let w = c.put_word-a.ensures in
    let p = c.put_number-b.ensures in
    let q = c.put_places-c.ensures in
    ended (more_list _ (more _ (begun w) p) q.0) c.finish.ensures
