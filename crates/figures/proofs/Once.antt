-- The answer of `figures` is fixed by the plan.
-- Main result: figures_once.
use Rattle.refusals.specs.declared.Refusal.{Refusal}
use Rattle.std.specs.Prelude.{◌≡◌, ℕ, Result, Ok}
use Rattle.std.proofs.Common.{sym, ◌∙◌, ap, ⊎_elim}
use Rattle.refusals.proofs.RefusalLaws.{stop_or_pass}
use Rattle.plan.specs.Plans.{plan_check}
use Rattle.plan.specs.declared.Plan.{Plan}
use Rattle.code.proofs.FiguresOnce.{figures_unique}
use Rattle.figures.specs.declared.Four.{Four}
use Rattle.figures.specs.Answers.{Answered}

-- four numbers make one record
abbrev four : ℕ → ℕ → ℕ → ℕ → Four
four a b c d = record { parity = a; pair = b; neighbour = c; distance = d }

four_same : {f g : Four} → (f.parity ≡ g.parity) × (f.pair ≡ g.pair) × (f.neighbour ≡ g.neighbour) × (f.distance ≡ g.distance) → f ≡ g
four_same {f} {g} e =
    ap (λ x. four x f.pair f.neighbour f.distance) e.0 ∙ ap (λ x. four g.parity x f.neighbour f.distance) e.1
    ∙ ap (λ x. four g.parity g.pair x f.distance) e.2 ∙ ap (λ x. four g.parity g.pair g.neighbour x) e.3

pub figures_once : (p : Plan) {a b : (Result Four Refusal)} → Answered p a → Answered p b → a ≡ b
figures_once p f g =
    ⊎_elim
    (λ e.
    let m = f.good e in
    let n = g.good e in
    m.1 ∙ ap Ok (four_same (figures_unique m.2 n.2)) ∙ sym n.1)
    (λ s. f.refused s.0 s.1 ∙ sym (g.refused s.0 s.1))
    (stop_or_pass (plan_check p))
