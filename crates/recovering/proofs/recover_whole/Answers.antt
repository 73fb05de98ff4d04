-- `recover_whole` meets its contract. Assumes nothing.
use mathlib.Core.Path.{refl, sym}
use native.Mathlib.Omega.{arith}
use Rattle.blocks.specs.RecoverLaws.{loose_within, crossed_within, loose_long, crossed_long, on_recovered, on_loose_shown, on_crossed_shown, not_refused}
use Rattle.lines.proofs.LinesLaws.{wrote_at, wrote_front}
use Rattle.recovering.proofs.recover_whole.Goals as goal

pub slice_bounds-loose_line-end : goal.slice_bounds-loose_line-end
slice_bounds-loose_line-end c = let p = c.requires in (loose_within _ _ _ _ p.0 p.2 c.in-Loose.ensures _ refl c.recover.auto.witness).0

pub slice_bounds-loose_line-end-in-Loose : goal.slice_bounds-loose_line-end-in-Loose
slice_bounds-loose_line-end-in-Loose c = let p = c.requires in sym (loose_long _ _ _ _ p.0 p.2 c.in-Loose.ensures _ refl c.recover.auto.witness)

pub loose_line-requires : goal.loose_line-requires
loose_line-requires c =
    let p = c.requires in
    let k = loose_within _ _ _ _ p.0 p.2 c.in-Loose.ensures _ refl c.recover.auto.witness in
    record { line_length_in_bounds = omega (arith, p.1); count_in_bounds = omega (arith, k, loose_long _ _ _ _ p.0 p.2 c.in-Loose.ensures _ refl c.recover.auto.witness) }

pub returns-in-Loose : goal.returns-in-Loose
returns-in-Loose c =
    let p = c.requires in
    let e = wrote_at c.loose_line.ensures in
    (on_loose_shown _ _ _ _ p.0 p.2 c.in-Loose.ensures _ refl c.recover.auto.witness e.text_stands, wrote_front e)

pub slice_bounds-crossed_line-end : goal.slice_bounds-crossed_line-end
slice_bounds-crossed_line-end c = let p = c.requires in (crossed_within _ _ _ _ p.0 p.2 c.in-Crossed.ensures _ refl c.recover.auto.witness).0

pub slice_bounds-crossed_line-end-in-Crossed : goal.slice_bounds-crossed_line-end-in-Crossed
slice_bounds-crossed_line-end-in-Crossed c = let p = c.requires in sym (crossed_long _ _ _ _ p.0 p.2 c.in-Crossed.ensures _ refl c.recover.auto.witness)

pub crossed_line-requires : goal.crossed_line-requires
crossed_line-requires c =
    let p = c.requires in
    let k = crossed_within _ _ _ _ p.0 p.2 c.in-Crossed.ensures _ refl c.recover.auto.witness in
    record { line_length_in_bounds = omega (arith, p.1); count_in_bounds = omega (arith, k, crossed_long _ _ _ _ p.0 p.2 c.in-Crossed.ensures _ refl c.recover.auto.witness) }

pub returns-in-Crossed : goal.returns-in-Crossed
returns-in-Crossed c =
    let p = c.requires in
    let e = wrote_at c.crossed_line.ensures in
    (on_crossed_shown _ _ _ _ p.0 p.2 c.in-Crossed.ensures _ refl c.recover.auto.witness e.text_stands, wrote_front e)

pub returns-in-Recovered : goal.returns-in-Recovered
returns-in-Recovered c =
    let p = c.requires in
    let e = wrote_at c.recovered_line.ensures.appends in
    (on_recovered _ _ _ _ p.0 p.2 c.in-Recovered.ensures refl c.marked-count.ensures (c.fill.ensures.after (λ y e. e)) e.text_stands, wrote_front e)

pub unreachable-requires : goal.unreachable-requires
unreachable-requires c = let p = c.requires in not_refused _ _ _ _ p.0 p.2 c.in-Refused.ensures _ refl
