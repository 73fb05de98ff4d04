-- A command that is known: what does not refuse it, and that it was performed.
-- Main results: refusal_is, shift_any; quiet_acts, told_acts.
use Rattle.std.specs.Prelude.{◌≡◌, List, [], ℕ, take, Ok}
use Rattle.std.proofs.Common.{sym, subst}
use Rattle.commands.specs.declared.Command.{Command}
use Rattle.commands.specs.declared.Command.TheVariants.{SetShift}
use Rattle.lines.specs.Lines.{Wrote}
use Rattle.lines.proofs.LinesLaws.{wrote_none}
use Rattle.state.specs.State.{State}
use Rattle.state.specs.Refusing.{refusal_of}
use Rattle.act.specs.Acts.{state_of, Acts, Held}

pub refusal_is : (s : State) {c k : Command} → c ≡ k → refusal_of s c ≡ Ok tt → refusal_of s k ≡ Ok tt
refusal_is s e r = subst (λ (x : Command). refusal_of s x ≡ Ok tt) e r

-- a shift depends on the plan alone
pub shift_any : (h : Held) (v m v' m' : List ℕ) (j p : ℕ) → refusal_of (state_of h v m) (SetShift j p) ≡ Ok tt → refusal_of (state_of h v' m') (SetShift j p) ≡ Ok tt
unfolding refusal_of state_of
shift_any h v m v' m' j p e = e

-- a command that writes no line, and one that writes one
pub quiet_acts : {c k : Command} {h g : Held} {v m v' m' : List ℕ} (l : List ℕ) → c ≡ k → Acts k h v m [] g v' m' → Acts c h v m (take 0 l) g v' m' × Wrote l (take 0 l) l 0
quiet_acts {c} {k} {h} {g} {v} {m} {v'} {m'} l e r = (subst (λ (x : Command). Acts x h v m [] g v' m') (sym e) r, wrote_none l)

pub told_acts : {c k : Command} {h : Held} {v m v' m' : List ℕ} {n : ℕ} (l l' : List ℕ) → c ≡ k → Acts k h v m (take n l') h v' m' × Wrote l (take n l') l' n →
    Acts c h v m (take n l') h v' m' × Wrote l (take n l') l' n
told_acts {c} {k} {h} {v} {m} {v'} {m'} {n} l l' e r = (subst (λ (x : Command). Acts x h v m (take n l') h v' m') (sym e) r.0, r.1)
