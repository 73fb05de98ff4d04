-- How perform keeps its promise.
-- Main results: performs_bad, performs_passed; size_none, size_found; held_shown, acts_held.
use Rattle.std.specs.Prelude.{◌≡◌, refl, Bool, List, [], ◌∷◌, ℕ, length, get_or, Ok, Err, Option, None, Some, IfSome, MatchOption, ◌<◌}
use Rattle.std.proofs.Common.{ap, sym, subst, arith}
use Rattle.refusals.specs.declared.Refusal.{Refusal}
use Rattle.std.specs.Option.{unwrap_or}
use Rattle.commands.specs.Commands.{size_of}
use Rattle.commands.specs.declared.Command.{Command}
use Rattle.plan.specs.declared.Plan.{Plan}
use Rattle.act.specs.Acts.{Held, held_plan, Acts}
use Rattle.standing.specs.Standing.{held_check}
use Rattle.turns.specs.Turns.{Turns}
use Rattle.turns.proofs.TurnLaws.{same}
use Rattle.turns.specs.declared.Turn.{Turn}
use Rattle.turns.specs.declared.Turn.TheVariants.{Bad}
use Rattle.job.specs.Performs.{Performs}

zero_one : ◌≡◌ {A = ℕ} 0 1 → ⊥
zero_one e = omega arith

pub performs_bad : (h : Held) (v m l b : List ℕ) (last : Bool) (offset : ℕ) (x : Refusal) → held_check h v m l ≡ Err x → Performs h v m l b last offset (Bad x) h v m l
performs_bad h v m l b last offset x e = record {
  bad = λ y q. let f : x ≡ y = cc in (ap Bad f, same h v m, refl);
  passed = λ q. absurd (zero_one (cc));
}

pub performs_passed : {h : Held} {v m l b : List ℕ} {last : Bool} {offset : ℕ} {turn : Turn} {h' : Held} {v' m' l' : List ℕ} → held_check h v m l ≡ Ok tt →
    Turns h v m l b last offset turn h' v' m' l' → Performs h v m l b last offset turn h' v' m' l'
performs_passed e t = record {
  bad = λ x q. absurd (zero_one (cc));
  passed = λ _. t;
}

-- no byte says no command
pub size_none : (b : List ℕ) → length b ≡ 0 → 0 ≡ size_of (get_or b 0 0)
unfolding size_of
size_none [] e = refl
size_none (x ∷ b) e = absurd (omega arith)

-- the size of a command, or 0 for none
pub size_found : {s : ℕ} (o : Option ℕ) → MatchOption o (s ≡ 0) (λ k. (k ≡ s) × (0 < k)) → unwrap_or o 0 ≡ s
size_found None e = sym e
size_found (Some k) e = e.0

-- the plan that is held, if one is
pub held_shown : (held : Held) → IfSome held (λ p. held_plan held ≡ p)
held_shown None = tt
held_shown (Some p) = refl

-- what was performed under the plan that is held
pub acts_held : {c : Command} {held : Held} {plan : Plan} {v m text : List ℕ} {h' : Held} {v' m' : List ℕ} → held ≡ Some plan → Acts c (Some plan) v m text h' v' m' → Acts c held v m text h' v' m'
acts_held {c} {held} {plan} {v} {m} {text} {h'} {v'} {m'} e a = subst (λ (h : Held). Acts c h v m text h' v' m') (sym e) a
