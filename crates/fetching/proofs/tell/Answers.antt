-- `tell` meets its contract: the bits that fetch gives are put into the line. Assumes nothing.
use native.Mathlib.Omega.{arith}
use Rattle.plan.specs.Layout.{layout}
use Rattle.plan.specs.Plans.{layout_of}
use Rattle.code.specs.Marks.{mark_bytes}
use Rattle.act.proofs.StateLaws.{places_most}
use Rattle.lines.proofs.LinesLaws.{wrote_at, wrote_front}
use Rattle.fetching.specs.FetchingLaws.{told_few, told_listed}
use Rattle.fetching.proofs.tell.Goals as goal

pub overflow_mul-plan : goal.overflow_mul-plan
overflow_mul-plan c = omega (arith, places_most _ c.requires.0.good)

pub fetch_line-requires : goal.fetch_line-requires
unfolding mark_bytes layout_of layout
fetch_line-requires c =
    let p = c.requires in
    let most = places_most _ p.0.good in
    let few = told_few p.0 _ p.1 c.fetch-answer.ensures c.unwrap_or-count.ensures in
    (p.2, omega (arith, p.0.long, p.1, c.fetch-answer.auto.list), most, omega (arith, few, most))

pub returns : goal.returns
returns c =
    let p = c.requires in
    let e = wrote_at c.fetch_line.ensures in
    (told_listed p.0 _ p.1 c.fetch-answer.ensures c.unwrap_or-count.ensures e.text_stands, wrote_front e)
