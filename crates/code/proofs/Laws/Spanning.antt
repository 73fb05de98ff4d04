-- A spanning forest of any erasures: the places whose rows the places above them do not connect.
-- Main results: spanning_forest, spanning_connected (it connects what E connects), spanning_exact (which places it has).
use Rattle.std.specs.Prelude.{refl, ◌↔◌, ℕ, eqb}
use Rattle.std.proofs.Common.{sym, ◌∙◌, inl, inr, lt_irrefl, arith}
use mathlib.Core.List.Memᴰ
use mathlib.Core.List.{List, [], ◌∷◌}
use mathlib.Core.List.Memᴰ.{head as first}
use mathlib.Core.List.Memᴰ.{tail as later}
use borrow.Author.Tests.{eqb-true, eqb-false}
use Rattle.math.specs.Members.{◌∈◌, Rising, rising_none, rising_more}
use Rattle.math.specs.MembersLaws.{by_test, by_place}
use Rattle.plan.specs.Layout.{Layout, top, bottom}
use Rattle.code.specs.Places.{Meets}
use Rattle.code.specs.Components.{Connected, here, along}
use Rattle.code.specs.Laws.Forest.{Erased, Forest, forest_none, forest_more, above}
use Rattle.code.specs.Laws.Labels.{label}
use Rattle.code.proofs.Laws.Labels.{label_connected, connected_label, connected_eq, connected_place, connected_sym, connected_trans, connected_mono}
use Rattle.code.proofs.Laws.Paths.{above_head, above_tail}
use Rattle.code.specs.Laws.Spanning.{spanning}

-- connected rows of one place may stand for each other
connected_meets : (L : Layout) {E : List ℕ} (c : ℕ) {r s : ℕ} → Connected L E (top L c) (bottom L c) → Meets L c r → Meets L c s → Connected L E r s
connected_meets L {E} c h (inl a) (inl b) = connected_eq L E (a ∙ sym b)
connected_meets L c h (inl a) (inr b) = rw (a, b) h
connected_meets L c h (inr a) (inl b) = rw (a, b) (connected_sym h)
connected_meets L {E} c h (inr a) (inr b) = connected_eq L E (a ∙ sym b)

-- F connects what E connects if it connects the rows of every place of E
pub connected_lift : {L : Layout} {E F : List ℕ} {r s : ℕ} → ((c : ℕ) → c ∈ E → Connected L F (top L c) (bottom L c)) → Connected L E r s → Connected L F r s
connected_lift f here = here
connected_lift {L} f (along c h m a b) = connected_trans (connected_lift f h) (connected_meets L c (f c m) a b)

module _ (L : Layout) where
  spanning_step : (c : ℕ) (cs : List ℕ) (P : List ℕ → Type 0) → (Connected L cs (top L c) (bottom L c) → P (spanning L cs))
      → (¬ (Connected L cs (top L c) (bottom L c)) → P (c ∷ spanning L cs)) → P (spanning L (c ∷ cs))
  unfolding spanning
  spanning_step c cs P y n =
      by_test (eqb (label L cs (top L c)) (label L cs (bottom L c)))
      (λ t. rw t (y (label_connected L cs (top L c) (bottom L c) (eqb-true (label L cs (top L c)) (label L cs (bottom L c)) t))))
      (λ f. rw f (n (λ h. eqb-false (label L cs (top L c)) (label L cs (bottom L c)) f (connected_label h))))

  pub spanning_∈ : (E : List ℕ) {c : ℕ} → c ∈ spanning L E → c ∈ E
  unfolding spanning
  spanning_∈ [] m = m
  spanning_∈ (x ∷ xs) {c} i =
      spanning_step x xs (λ l. c ∈ l → c ∈ (x ∷ xs))
      (λ y m. later (spanning_∈ xs m)) (λ n m. by_place m (λ e. first e) (λ k. later (spanning_∈ xs k))) i

  rising_spanning : {E : List ℕ} → Rising E → Rising (spanning L E)
  unfolding spanning
  rising_spanning rising_none = rising_none
  rising_spanning (rising_more {c = c} {cs = cs} h r) =
      spanning_step c cs Rising (λ _. rising_spanning r) (λ _. rising_more (λ d m. h d (spanning_∈ cs m)) (rising_spanning r))

  pub erased_spanning : {E : List ℕ} → Erased L E → Erased L (spanning L E)
  erased_spanning {E} h = record { rising = rising_spanning h.rising; inside = λ c m. h.inside c (spanning_∈ E m) }

  pub spanning_forest : (E : List ℕ) → Forest L (spanning L E)
  unfolding spanning
  spanning_forest [] = forest_none
  spanning_forest (c ∷ cs) =
      spanning_step c cs (Forest L) (λ _. spanning_forest cs) (λ n. forest_more (λ h. n (connected_mono (λ d m. spanning_∈ cs m) h)) (spanning_forest cs))

  -- the rows of every place of E stay connected
  pub spanning_spans : {E : List ℕ} {c : ℕ} → c ∈ E → Connected L (spanning L E) (top L c) (bottom L c)
  spanning_spans {E = []} m = absurd (Memᴰ.not-nil m)
  spanning_spans {E = x ∷ xs} {c} i =
      spanning_step x xs (λ l. Connected L l (top L c) (bottom L c))
      (λ y. by_place i (λ e. rw e (connected_lift (λ d k. spanning_spans k) y)) (λ k. spanning_spans k))
      (λ n. by_place i (λ e. rw e (connected_place L (first refl))) (λ k. connected_mono (λ d m. later m) (spanning_spans k)))

  pub spanning_connected : {E : List ℕ} {r s : ℕ} → Connected L E r s → Connected L (spanning L E) r s
  spanning_connected h = connected_lift (λ c m. spanning_spans m) h

  pub spanning_exact : {E : List ℕ} {c : ℕ} → Rising E → c ∈ E → (c ∈ spanning L E) ↔ ¬ (Connected L (above c E) (top L c) (bottom L c))
  spanning_exact {c} rising_none i = absurd (Memᴰ.not-nil i)
  spanning_exact {c} (rising_more {c = x} {cs = xs} h r) i =
      by_place i
      (λ e. rw (e, above_head (rising_more h r))
      (spanning_step x xs (λ l. (x ∈ l) ↔ ¬ (Connected L xs (top L x) (bottom L x)))
      (λ y. (λ m. absurd (lt_irrefl x (h x (spanning_∈ xs m))), λ n. absurd (n y)))
      (λ n. (λ _. n, λ _. first refl))))
      (λ k. rw (above_tail (rising_more h r) k)
      (spanning_step x xs (λ l. (c ∈ l) ↔ ¬ (Connected L (above c xs) (top L c) (bottom L c)))
      (λ y. spanning_exact r k)
      (λ n. (λ m. (spanning_exact r k).0 (by_place m (λ e. absurd (omega (arith, h c k))) (λ z. z)), λ z. later ((spanning_exact r k).1 z)))))
