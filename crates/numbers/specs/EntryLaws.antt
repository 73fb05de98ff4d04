-- How the answer of figures keeps the promise of its C entry.
-- Main results: figures_done, figures_refused.
use Rattle.std.specs.Prelude.{refl, Ok, Err}
use Rattle.std.proofs.Common.{sym, ◌∙◌}
use Rattle.refusals.specs.Refusals.{number_of}
use Rattle.refusals.proofs.RefusalLaws.{check_number_zero}
use Rattle.refusals.specs.declared.Refusal.{Refusal}
use Rattle.plan.specs.Plans.{plan_check}
use Rattle.plan.specs.declared.Plan.{Plan}
use Rattle.figures.specs.Answers.{Answered}
use Rattle.figures.specs.declared.Four.{Four}
use Rattle.numbers.specs.Entries.{FiguresOut}

pub figures_done : (p : Plan) (f : Four) → Answered p (Ok f) → FiguresOut p 0 f.parity f.pair f.neighbour f.distance
figures_done p f h =
    record {
      number_is = h.number;
      figures_are = λ e. h.values (check_number_zero (plan_check p) (sym h.number));
      refused_zeros = λ o. absurd (o refl);
    }

pub figures_refused : (p : Plan) (x : Refusal) → Answered p (Err x) → FiguresOut p (number_of x) 0 0 0 0
figures_refused p x h =
    record {
      number_is = h.number;
      figures_are = λ e. h.values (check_number_zero (plan_check p) (sym h.number ∙ e));
      refused_zeros = λ o. (refl, refl, refl, refl);
    }
