-- Marks are set.
use native.Mathlib.Omega.{arith}
use Rattle.act.proofs.StateLaws.{mark_inside, places_most}
use Rattle.act.proofs.ActLaws.{one_marked}
use Rattle.act.specs.Acts.{state_of}
use Rattle.act.proofs.symbols.mark_one.Goals as goal

pub set_mark-requires : goal.set_mark-requires
unfolding state_of
set_mark-requires c = let k = c.requires.1.0 in let r = mark_inside _ _ c.requires.1.1 in omega (arith, r.1, places_most _ (k.good r.0), k.marks_long)

pub returns : goal.returns
unfolding state_of
returns c = λ v k. let r = mark_inside _ _ c.requires.1.1 in one_marked k r.0 (λ i. (c.slice_known-1.given i).fits) _ r.1 c.set_mark.ensures
