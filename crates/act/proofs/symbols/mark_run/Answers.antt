-- Marks are set.
use native.Mathlib.Omega.{arith}
use Rattle.act.proofs.StateLaws.{run_inside, places_most}
use Rattle.act.proofs.ActLaws.{run_marked}
use Rattle.act.specs.Acts.{state_of}
use Rattle.act.proofs.symbols.mark_run.Goals as goal

pub mark_run-requires : goal.mark_run-requires
unfolding state_of
mark_run-requires c = let k = c.requires.1.0 in let r = run_inside _ _ _ c.requires.1.1 in omega (arith, r.1, places_most _ (k.good r.0), k.marks_long)

pub returns : goal.returns
unfolding state_of
returns c = λ v k. let r = run_inside _ _ _ c.requires.1.1 in run_marked k r.0 (λ i. (c.slice_known-1.given i).fits) _ _ r.1 c.mark_run.ensures
