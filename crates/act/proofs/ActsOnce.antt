-- A command performed over lent buffers leaves one thing: the plan held, all that stands in both buffers, and one text.
-- Main results: parts_same, kept_stands, acts_once.
use Rattle.std.specs.Prelude.{◌≡◌, List, ◌++◌, ℕ, ◌*◌, take, drop, refl, cond, Ok, None, Some}
use Rattle.std.proofs.Common.{sym, ◌∙◌, ap, ap₂, subst, take-append-drop}
use Rattle.plan.specs.Plans.{layout_of}
use Rattle.code.specs.Marks.{mark_bytes}
use Rattle.commands.specs.declared.Command.{Command}
use Rattle.state.specs.State.{State}
use Rattle.state.specs.Refusing.{refusal_of}
use Rattle.act.specs.Acts.{state_of, Kept, Rest, Acts, Held, held_plan}
use Rattle.act.proofs.MeaningOnce.{Standing, means_once}

-- lists with the same front and the same rest are the same
pub parts_same : (k : ℕ) {x y : List ℕ} → take k x ≡ take k y → drop k x ≡ drop k y → x ≡ y
parts_same k {x} {y} a b = sym (take-append-drop k x) ∙ ap₂ ◌++◌ a b ∙ take-append-drop k y

-- a kept state is one that a job can be in
pub kept_stands : {h : Held} {v m : List ℕ} → Kept h v m → Standing (state_of h v m)
unfolding state_of
kept_stands k = record { good = k.good }

-- the state says the front of the buffers, and the rest is kept
buffers_once : {h : Held} {v m v' m' w' k' : List ℕ} → state_of h v' m' ≡ state_of h w' k' → Rest h v m v' m' → Rest h v m w' k' → (v' ≡ w') × (m' ≡ k')
unfolding state_of
buffers_once {h} e p q = (
  parts_same ((held_plan h).n * (held_plan h).t) (ap (λ (s : State). s.block) e) (p.block ∙ sym q.block),
  parts_same (mark_bytes (layout_of (held_plan h))) (ap (λ (s : State). s.marks) e) (p.marks ∙ sym q.marks),
)

-- the plan that a state holds
held_in : State → Held
held_in s = cond s.planned (Some s.plan) None

held_back : (h : Held) (v m : List ℕ) → held_in (state_of h v m) ≡ h
unfolding held_in state_of
held_back (Some p) v m = refl
held_back None v m = refl

pub acts_once : (c : Command) {h a b : Held} {v m x y v' m' w' k' : List ℕ} → Kept h v m → refusal_of (state_of h v m) c ≡ Ok tt →
    Acts c h v m x a v' m' → Acts c h v m y b w' k' → (a ≡ b) × (v' ≡ w') × (m' ≡ k') × (x ≡ y)
unfolding state_of
acts_once c {h} {a} {b} {v} {m} {x} {y} {v'} {m'} {w'} {k'} kept e p q =
    let o = means_once (kept_stands kept) c e p.means q.means in
    let held : a ≡ b = sym (held_back a v' m') ∙ ap held_in o.0 ∙ held_back b w' k' in
    let f = buffers_once (subst (λ (z : Held). state_of a v' m' ≡ state_of z w' k') (sym held) o.0)
    p.rest (subst (λ (z : Held). Rest z v m w' k') (sym held) q.rest) in
    (held, f.0, f.1, o.1)
