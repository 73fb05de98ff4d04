-- The symbol at the place is written.
use native.Mathlib.Omega.{arith}
use Rattle.act.proofs.StateLaws.{show_inside, places_most}
use Rattle.act.proofs.ActLaws.{shown}
use Rattle.act.specs.Acts.{state_of}
use Rattle.lines.proofs.LinesLaws.{wrote_at, wrote_front}
use Rattle.act.proofs.symbols.show.Goals as goal

pub bounds-block-at : goal.bounds-block-at
unfolding state_of
bounds-block-at c = let k = c.requires.1.1.0 in let r = show_inside _ _ c.requires.1.1.1 in omega (arith, r.1, places_most _ (k.good r.0), k.block_long)

pub returns : goal.returns
unfolding state_of
returns c =
    let r = show_inside _ _ c.requires.1.1.1 in
    let e = wrote_at c.symbol_line.ensures in
    (λ m k. shown k _ r.1 e.text_stands, wrote_front e)
