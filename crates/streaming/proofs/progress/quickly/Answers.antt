-- Without a plan nothing is done.
use native.Mathlib.Omega.{arith}
use mathlib.Core.Path.{refl, subst}
use Rattle.act.specs.Acts.{Held, Kept}
use Rattle.stream.proofs.CourseLaws.{course_none, course_planned}
use Rattle.act.proofs.StateLaws.{places_most}
use borrow.Author.Rules.{rules}
use Rattle.streaming.proofs.progress.quickly.Goals as goal

pub returns-in_default : goal.returns-in_default
returns-in_default c = λ last o. course_none _ last o _ _ _ _ _ _ c.requires.0 c.requires.2 c.requires.1

pub overflow_mul-plan : goal.overflow_mul-plan
overflow_mul-plan c =
    let k = subst (λ (h : Held). Kept h c.args.block.now c.args.marks.now) c.in-Some.is c.requires.0 in
    omega (arith, places_most _ (k.good refl))

pub quick-requires : goal.quick-requires
quick-requires c =
    let k = subst (λ (h : Held). Kept h c.args.block.now c.args.marks.now) c.in-Some.is c.requires.0 in
    (places_most _ (k.good refl), k.block_long, k.marks_long, c.requires.2, c.requires.1)

pub shape_of-block : goal.shape_of-block
shape_of-block c = search rules

pub shape_of-marks : goal.shape_of-marks
shape_of-marks c = search rules

pub shape_of-sheet : goal.shape_of-sheet
shape_of-sheet c = search rules

pub returns : goal.returns
returns c = λ last o. course_planned last o c.in-Some.is c.requires.0 c.quick.ensures
