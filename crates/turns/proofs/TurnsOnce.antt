-- A turn is one: on a state that nothing refuses, the bytes at hand settle what comes of them, the plan held, and all that stands in the three buffers.
-- Main results: wrote_once, same_once, turns_once.
use Rattle.std.specs.Prelude.{◌≡◌, Bool, true, false, List, ℕ, length, get_or, drop, take, Ok}
use Rattle.std.proofs.Math.Path.{refl, sym, ap}
use Rattle.std.proofs.Common.{◌∙◌, subst, ap₂, length-take-le}
use Rattle.std.proofs.Math.Logic.{by_cases}
use Rattle.refusals.proofs.RefusalLaws.{dec_pass, stop_same}
use Rattle.refusals.specs.Refusals.{Check}
use Rattle.commands.specs.Commands.{size_of, parsed}
use Rattle.commands.specs.declared.Command.{Command}
use Rattle.commands.specs.declared.Parsed.{Parsed}
use Rattle.commands.specs.declared.Parsed.TheVariants.{Whole, Unknown, Short, Nothing}
use Rattle.lines.specs.Lines.{Wrote}
use Rattle.state.specs.Refusing.{refusal_of}
use Rattle.act.specs.Acts.{state_of, Kept, Held}
use Rattle.act.proofs.ActsOnce.{parts_same, acts_once}
use Rattle.turns.specs.Turns.{Stops, Same, Ends, Goes, Turns}
use Rattle.turns.specs.declared.Turn.{Turn}
use Rattle.turns.specs.declared.Turn.TheVariants.{End, Stop, On}

-- a text that was written settles the buffer and the count
pub wrote_once : {l x l' k' : List ℕ} {c d : ℕ} → Wrote l x l' c → Wrote l x k' d → (l' ≡ k') × (c ≡ d)
wrote_once {l} {x} {l'} {k'} {c} {d} p q =
    let e : c ≡ d = sym (length-take-le c l' p.within) ∙ ap length (p.text_stands ∙ sym q.text_stands) ∙ length-take-le d k' q.within in
    let front : take c l' ≡ take c k' = p.text_stands ∙ sym q.text_stands ∙ ap (λ n. take n k') (sym e) in
    let rest : drop c l' ≡ drop c k' = p.rest ∙ ap (λ n. drop n l) e ∙ sym q.rest ∙ ap (λ n. drop n k') (sym e) in
    (parts_same c front rest, e)

stops_once : {c : Check} {offset : ℕ} {l l' k' : List ℕ} {t u : Turn} → Stops c offset l t l' → Stops c offset l u k' → (t ≡ u) × (l' ≡ k')
stops_once p q = let w = wrote_once p.wrote q.wrote in (p.stopped ∙ ap₂ Stop (stop_same (sym p.at ∙ q.at)) w.1 ∙ sym q.stopped, w.0)

ends_once : {l l' k' : List ℕ} {t u : Turn} → Ends l t l' → Ends l u k' → (t ≡ u) × (l' ≡ k')
ends_once p q = let w = wrote_once p.wrote q.wrote in (p.ended ∙ ap End w.1 ∙ sym q.ended, w.0)

pub same_once : {h a b : Held} {v m v' m' w' k' : List ℕ} → Same h v m a v' m' → Same h v m b w' k' → (a ≡ b) × (v' ≡ w') × (m' ≡ k')
same_once p q = (p.held ∙ sym q.held, p.block ∙ sym q.block, p.marks ∙ sym q.marks)

-- what comes of the bytes, the plan held, the block, the marks and the line
module _ {h : Held} {v m l b : List ℕ} {last : Bool} {offset : ℕ} (kept : Kept h v m)
    {t u : Turn} {h' a' : Held} {v' m' l' w' k' y' : List ℕ}
    (p : Turns h v m l b last offset t h' v' m' l') (q : Turns h v m l b last offset u a' w' k' y') where
  AllSame : Type 0
  AllSame = (t ≡ u) × (h' ≡ a') × (v' ≡ w') × (m' ≡ k') × (l' ≡ y')

  -- nothing but the turn and the line is new
  still : (t ≡ u) × (l' ≡ y') → Same h v m h' v' m' → Same h v m a' w' k' → AllSame
  unfolding AllSame
  still e r s = let f = same_once r s in (e.0, f.0, f.1, f.2, e.1)

  goes_once : (c : Command) (size : ℕ) → refusal_of (state_of h v m) c ≡ Ok tt → Goes c size h v m l t h' v' m' l' → Goes c size h v m l u a' w' k' y' → AllSame
  unfolding AllSame
  goes_once c size e f g =
      let s = acts_once c kept e f.acts g.acts in
      let w = wrote_once f.wrote (subst (λ x. Wrote l x y' g.count) (sym s.3) g.wrote) in
      (f.on ∙ ap (On size) w.1 ∙ sym g.on, s.0, s.1, s.2, w.0)

  by_front : (x : Parsed) → parsed b ≡ x → (z : Bool) → last ≡ z → AllSame
  by_front Nothing e false z =
      let f = p.nothing_yet e z in let g = q.nothing_yet e z in still (f.0 ∙ sym g.0, f.2 ∙ sym g.2) f.1 g.1
  by_front Nothing e true z = let f = p.ends e z in let g = q.ends e z in still (ends_once f.0 g.0) f.1 g.1
  by_front Short e false z = let f = p.cut_yet e z in let g = q.cut_yet e z in still (f.0 ∙ sym g.0, f.2 ∙ sym g.2) f.1 g.1
  by_front Short e true z = let f = p.short e z in let g = q.short e z in still (stops_once f.0 g.0) f.1 g.1
  by_front Unknown e x z = let f = p.unknown e in let g = q.unknown e in still (stops_once f.0 g.0) f.1 g.1
  by_front (Whole c) e x z =
      by_cases (dec_pass (refusal_of (state_of h v m) c))
      (λ n. goes_once c (size_of (get_or b 0 0)) n (p.goes_on c e n) (q.goes_on c e n))
      (λ n. let f = p.refused c e n in let g = q.refused c e n in still (stops_once f.0 g.0) f.1 g.1)

  pub turns_once : (t ≡ u) × (h' ≡ a') × (v' ≡ w') × (m' ≡ k') × (l' ≡ y')
  unfolding AllSame
  turns_once = by_front (parsed b) refl last refl
