-- The symbol is stored and the mark cleared.
use native.Mathlib.Omega.{arith}
use Rattle.act.proofs.StateLaws.{place_inside, places_most}
use Rattle.act.proofs.ActLaws.{symbol_set}
use Rattle.act.specs.Acts.{state_of}
use Rattle.act.proofs.symbols.set_symbol.Goals as goal

pub put-requires : goal.put-requires
unfolding state_of
put-requires c = let k = c.requires.0 in let r = place_inside _ _ _ c.requires.1 in omega (arith, r.1, places_most _ (k.good r.0), k.block_long)

pub clear_mark-requires : goal.clear_mark-requires
unfolding state_of
clear_mark-requires c = let k = c.requires.0 in let r = place_inside _ _ _ c.requires.1 in omega (arith, r.1, places_most _ (k.good r.0), k.marks_long)

pub returns : goal.returns
unfolding state_of
returns c = let r = place_inside _ _ _ c.requires.1 in symbol_set c.requires.0 r.0 (λ i. (c.slice_known-2-1.given i).fits) _ _ r.1 c.put.ensures c.clear_mark.ensures
