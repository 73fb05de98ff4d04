-- Recovery by its answer: the line that each answer has written, and the state that each leaves.
-- Main definitions: recovery_line, recovery_state. Main results: recovering_by, recovering_is.
use Rattle.std.specs.Prelude.{◌≡◌, refl, List, [], ◌∷◌, ℕ, length, take, replicate}
use Rattle.std.proofs.Common.{◌∙◌, ap}
use Rattle.plan.specs.Plans.{layout_of}
use Rattle.code.specs.Marks.{mark_bytes, erasures}
use Rattle.promises.specs.Promises.{Decides}
use Rattle.answers.specs.declared.Recovery.{Recovery}
use Rattle.answers.specs.declared.Recovery.TheVariants.{Recovered, Crossed, Loose, Refused}
use Rattle.lines.specs.Lines.{line, recovered_word, loose_word, crossed_word}
use Rattle.state.specs.State.{State, with_block}
use Rattle.act.specs.Meaning.{Recovering}

abbrev pub recovery_line : State → Recovery → List ℕ → List ℕ
recovery_line s Recovered w = line recovered_word (length (erasures (layout_of s.plan) s.marks) ∷ [])
recovery_line s (Loose z) w = line loose_word (z ∷ take z w)
recovery_line s (Crossed z) w = line crossed_word (z ∷ take z w)
recovery_line s (Refused x) w = []

abbrev pub recovery_state : State → Recovery → List ℕ → State
recovery_state s Recovered v = with_block s v (replicate (mark_bytes (layout_of s.plan)) 0)
recovery_state s (Loose z) v = s
recovery_state s (Crossed z) v = s
recovery_state s (Refused x) v = s

-- what is decided, with its line and its state, is what recovery means
pub recovering_by : {s s' : State} {r : Recovery} {v w text : List ℕ} → Decides (layout_of s.plan) (erasures (layout_of s.plan) s.marks) s.block r v w →
    text ≡ recovery_line s r w → s' ≡ recovery_state s r v → Recovering s s' text
recovering_by {s} {s'} {r} {v} {w} {text} d t f = record { answer = r; block = v; list = w; decides = d; recovered = by; loose = λ z. by; crossed = λ z. by }
  where
    by : {x : Recovery} → r ≡ x → (text ≡ recovery_line s x w) × (s' ≡ recovery_state s x v)
    by e = (t ∙ ap (λ (x : Recovery). recovery_line s x w) e, f ∙ ap (λ (x : Recovery). recovery_state s x v) e)

-- and back
pub recovering_is : {s s' : State} {text : List ℕ} (p : Recovering s s' text) →
    (text ≡ recovery_line s p.answer p.list) × (s' ≡ recovery_state s p.answer p.block)
recovering_is {s} {s'} {text} p = go p.answer refl
  where
    go : (r : Recovery) → p.answer ≡ r → (text ≡ recovery_line s r p.list) × (s' ≡ recovery_state s r p.block)
    go Recovered e = p.recovered e
    go (Loose z) e = p.loose z e
    go (Crossed z) e = p.crossed z e
    go (Refused x) e = absurd (p.decides.not_refused x e)
