-- perform is fixed by its input: whatever is lent, two outcomes that keep its promise are equal.
-- Main result: performs_once.
use Rattle.std.specs.Prelude.{◌≡◌, Bool, List, ℕ}
use Rattle.std.proofs.Common.{sym, ◌∙◌, ⊎_elim}
use Rattle.refusals.proofs.RefusalLaws.{stop_or_pass}
use Rattle.act.specs.Acts.{Held}
use Rattle.standing.specs.Standing.{held_check}
use Rattle.standing.specs.StandingLaws.{pass_kept}
use Rattle.turns.proofs.TurnsOnce.{same_once, turns_once}
use Rattle.turns.specs.declared.Turn.{Turn}
use Rattle.job.specs.Performs.{Performs}

-- what comes of the bytes, the plan held, the block, the marks and the line
pub performs_once : (h : Held) (v m l b : List ℕ) (last : Bool) (offset : ℕ) {t u : Turn} {h' a' : Held} {v' m' l' w' k' y' : List ℕ} →
    Performs h v m l b last offset t h' v' m' l' → Performs h v m l b last offset u a' w' k' y' →
    (t ≡ u) × (h' ≡ a') × (v' ≡ w') × (m' ≡ k') × (l' ≡ y')
performs_once h v m l b last offset p q =
    ⊎_elim
    (λ pass. turns_once (pass_kept h v m l pass).0 (p.passed pass) (q.passed pass))
    (λ stop.
    let f = p.bad stop.0 stop.1 in
    let g = q.bad stop.0 stop.1 in
    let s = same_once f.1 g.1 in
    (f.0 ∙ sym g.0, s.0, s.1, s.2, f.2 ∙ sym g.2))
    (stop_or_pass (held_check h v m l))
