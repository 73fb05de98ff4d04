-- The turn, and its line put on the sheet.
use Prim.Native.Nat.{◌^◌, ◌<◌}
use native.Mathlib.Omega.{arith}
use lib.ListN.{length}
use Rattle.sheet.specs.RunningLaws.{turned, turn_fits, next_placed}
use Rattle.sheet.proofs.next.Goals as goal

pub slice_bounds-perform-count : goal.slice_bounds-perform-count
slice_bounds-perform-count c = omega (arith, c.requires.0.1.inside)

pub slice_bounds-perform-start : goal.slice_bounds-perform-start
slice_bounds-perform-start c = omega (arith, c.requires.0.1.inside)

pub put_turn-requires : goal.put_turn-requires
put_turn-requires c =
    let r = c.requires.0.1 in
    let big : length c.args.job.now < 2 ^ 64 = omega (arith, c.well_formed) in
    (turn_fits r c.requires.1 big (turned r c.requires.1 c.perform-step.ensures), r.room)

pub shape_of-block : goal.shape_of-block
shape_of-block c = c.perform-step.auto.block

pub shape_of-marks : goal.shape_of-marks
shape_of-marks c = c.perform-step.auto.marks

pub shape_of-line : goal.shape_of-line
shape_of-line c = c.perform-step.auto.line

pub returns : goal.returns
returns c =
    let p = c.put_turn.ensures in
    let z = c.requires.1 in
    let r = c.requires.0.1 in (
      λ x r. (next_placed r z (turned r z c.perform-step.ensures) c.perform-step.auto.line p.0 p.1).0,
      (next_placed r z (turned r z c.perform-step.ensures) c.perform-step.auto.line p.0 p.1).1,
    )
