-- `closings` meets its contract. Assumes nothing.
use Rattle.closings.specs.Collecting.{collecting_start}
use Rattle.closings.proofs.closings.Goals as goal

pub pass-requires : goal.pass-requires
pass-requires c =
    let p = c.requires in
    collecting_start p.0 _ c.args.list.now p.1 p.2 c.own.ensures p.3 (c.fill.ensures.after (λ y e. e))
