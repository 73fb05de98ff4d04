-- Those below the highest offset.
use native.Mathlib.Omega.{arith}
use Prim.Native.Nat.{◌-◌}
use lib.ListN.{length, drop}
use Rattle.stream.proofs.WorksLaws.{stream_ready, part_fits_lem, reach_fits, below_fits, below_inside, went_to}
use Rattle.streaming.proofs.go_on.Goals as goal

pub reach-to-requires : goal.reach-to-requires
reach-to-requires c = let r = stream_ready _ _ _ _ _ c.requires.0 in r.ordered

pub slice_bounds-perform_all-count : goal.slice_bounds-perform_all-count
slice_bounds-perform_all-count c = let r = stream_ready _ _ _ _ _ c.requires.0 in let e = c.reach-to.ensures in (omega (arith, e, r.ordered))

pub slice_bounds-perform_all-start : goal.slice_bounds-perform_all-start
slice_bounds-perform_all-start c = let r = stream_ready _ _ _ _ _ c.requires.0 in let e = c.reach-to.ensures in (omega (arith, e, r.ordered, r.inside))

pub slice_bounds-perform_all-end : goal.slice_bounds-perform_all-end
slice_bounds-perform_all-end c = let r = stream_ready _ _ _ _ _ c.requires.0 in let e = c.reach-to.ensures in (omega (arith, e, r.ordered, r.inside))

pub perform_all-here-requires : goal.perform_all-here-requires
perform_all-here-requires c =
    let r = stream_ready _ _ _ _ _ c.requires.0 in
    let e = c.reach-to.ensures in
    (r.kept, r.waits, part_fits_lem c.args.stream.cursor.offset (c.reach-to.result - c.args.stream.cursor.at) _ (omega (arith, e, below_fits c.args.stream.cursor (omega (arith, c.well_formed)))))

pub moved-requires : goal.moved-requires
moved-requires c =
    let i = c.args.input.now in
    let cursor = c.args.stream.cursor in
    let r = stream_ready _ _ _ _ _ c.requires.0 in
    let e = c.reach-to.ensures in
    reach_fits cursor.offset cursor.at (c.reach-to.result - cursor.at) _ (length i) (drop cursor.at i) c.perform_all-here.ensures.0.inside
    (omega (arith, e, below_fits cursor (omega (arith, c.well_formed)))) (omega (arith, e, below_inside cursor (length i) r.ordered r.inside)) (omega (arith, c.well_formed))

pub returns : goal.returns
returns c =
    let r = stream_ready _ _ _ _ _ c.requires.0 in
    rw c.moved.ensures (went_to _ _ _ _ _ r c.reach-to.result c.ends.result c.reach-to.ensures c.ends.ensures (omega (arith, c.well_formed)) c.perform_all-here.ensures.0 c.perform_all-here.ensures.1)
