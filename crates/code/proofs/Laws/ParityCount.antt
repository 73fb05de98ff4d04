-- T8, the count: the parity places are the spanning forest of all places, so they number 2t - g (Theorem 2 of 002).
-- Main results: parity_lists, parity_count, parity_or_message, message_count_lem, forest_length.
use Rattle.std.specs.Prelude.{◌≡◌, ◌⊎◌, List, ℕ, ◌-◌, ◌*◌, ◌≤◌, ◌<◌, length}
use Rattle.std.proofs.Common.{sym, ◌∙◌, inl, inr, arith}
use Rattle.std.proofs.Math.Logic.{by_cases}
use Rattle.math.specs.Members.{◌∈◌}
use Rattle.math.specs.MembersLaws.{∈_up_to, up_to_∈, length_up_to, rising_up_to, rising_distinct}
use Rattle.math.specs.Pigeonhole.{distinct_length}
use Rattle.plan.specs.Layout.{Layout, Valid, top, bottom, divisor}
use Rattle.code.specs.Places.{places}
use Rattle.code.specs.Cycles.{Lowest}
use Rattle.code.specs.Components.{Connected}
use Rattle.code.specs.Messages.{Parity, Message, Lists}
use Rattle.code.proofs.Laws.Basics.{rising_places}
use Rattle.code.specs.Laws.Forest.{Erased, Forest, above}
use Rattle.code.proofs.Laws.WholeGraph.{divisor_le, class_lt, class_small, class_same, class_connected}
use Rattle.code.proofs.Laws.Spanning.{spanning_∈, spanning_exact, spanning_forest, spanning_connected, erased_spanning}
use Rattle.code.proofs.Laws.Closings.{closings_lists, length_closings}
use Rattle.code.proofs.Laws.Sections.{length_places}
use Rattle.code.specs.Laws.Labels.{label}
use Rattle.code.proofs.Laws.Labels.{label_le, label_lowest, dec_connected, connected_own, connected_mono}
use Rattle.code.specs.Laws.Roots.{roots}
use Rattle.code.proofs.Laws.Roots.{∈_roots, roots_∈, distinct_roots, roots_forest}
use Rattle.code.proofs.Laws.Paths.{path}
use Rattle.code.specs.Laws.ParityCount.{messages, parities}

pub erased_places : (L : Layout) → Erased L (places L)
erased_places L = record { rising = rising_places L; inside = λ c m. m }

pub erased_parities : (L : Layout) → Erased L (parities L)
unfolding parities
erased_parities L = erased_spanning L (erased_places L)

pub forest_parities : (L : Layout) → Forest L (parities L)
unfolding parities
forest_parities L = spanning_forest L (places L)

pub parities_connected : (L : Layout) {r s : ℕ} → Connected L (places L) r s → Connected L (parities L) r s
unfolding parities
parities_connected L h = spanning_connected L h

-- a list of the lowest places of cycles of all places is one of the message places
pub lowest_messages : (L : Layout) {l : List ℕ} → Lists (λ c. (c ∈ places L) × Lowest L (places L) c) l → Lists (Message L) l
lowest_messages L p = record {
  rising = p.rising;
  exact = λ c.
      let k = p.exact c in
      (λ m. record { inside = (k.0 m).0; lowest_of_some = (k.0 m).1 }, λ q. k.1 (q.inside, q.lowest_of_some));
}

module _ (L : Layout) (ok : Valid L) where
  -- a parity place is one of the spanning forest; every other place is a message place
  pub parity_lists : Lists (Parity L) (parities L)
  unfolding parities
  parity_lists = record {
    rising = (erased_parities L).rising;
    exact = λ c. (
      λ m. let i = spanning_∈ L (places L) m in
          record { inside = i; lowest_of_none = λ l. (spanning_exact L (rising_places L) i).0 m ((path L ok (places L) c (erased_places L) i).1 l) },
      λ p. (spanning_exact L (rising_places L) p.inside).1 (λ h. p.lowest_of_none ((path L ok (places L) c (erased_places L) p.inside).0 h)),
    );
  }

  pub parity_or_message : (c : ℕ) → c ∈ places L → Parity L c ⊎ Message L c
  parity_or_message c m =
      by_cases (dec_connected L (above c (places L)) (top L c) (bottom L c))
      (λ h. inr (record { inside = m; lowest_of_some = (path L ok (places L) c (erased_places L) m).0 h }))
      (λ n. inl (record { inside = m; lowest_of_none = λ l. n ((path L ok (places L) c (erased_places L) m).1 l) }))

  pub message_lists : Lists (Message L) (messages L)
  unfolding messages
  message_lists = lowest_messages L (closings_lists L ok (erased_places L))

  -- a row below g is the lowest of its component, whatever the erasures
  low_root : {E : List ℕ} {r : ℕ} → Erased L E → r < divisor L → r ∈ roots L E
  low_root {E} {r} h l =
      let c : Connected L (places L) r (label L E r) = connected_mono h.inside (connected_own L E r) in
      ∈_roots L E {r = r} (omega (arith, divisor_le L ok))
      (sym (class_small L ok (omega (arith, label_le L E r))) ∙ sym (class_same L ok c) ∙ class_small L ok l)

  roots_many : {E : List ℕ} → Erased L E → divisor L ≤ length (roots L E)
  roots_many {E} h =
      let k = distinct_length (rising_distinct (rising_up_to (divisor L))) (λ r m. low_root h (up_to_∈ (divisor L) m)) in
      omega (arith, length_up_to (divisor L))

  -- no other row is the lowest of its component of the whole graph
  root_low : 0 < length L.sections → {r : ℕ} → r ∈ roots L (parities L) → r < divisor L
  root_low some {r} m =
      let k = roots_∈ L (parities L) m in
      omega (arith, k.1, label_lowest (parities_connected L (class_connected L ok some k.0)), class_lt L ok r)

  roots_few : 0 < length L.sections → length (roots L (parities L)) ≤ divisor L
  roots_few some =
      let k = distinct_length (distinct_roots L (parities L)) (λ r m. ∈_up_to (root_low some m)) in
      omega (arith, length_up_to (divisor L))

  pub length_parities : 0 < length L.sections → length (parities L) ≡ 2 * L.t - divisor L
  length_parities some =
      omega (arith, roots_forest L ok (forest_parities L), roots_many (erased_parities L), roots_few some)

  pub parity_count : 0 < length L.sections → (l : List ℕ) × Lists (Parity L) l × (length l ≡ 2 * L.t - divisor L)
  parity_count some = (parities L, parity_lists, length_parities some)

  pub length_messages : 0 < length L.sections → length (messages L) ≡ length L.sections * L.t - (2 * L.t - divisor L)
  unfolding messages parities
  length_messages some = omega (arith, length_closings L (erased_places L), length_parities some, length_places L ok)

  pub message_count_lem : 0 < length L.sections → (l : List ℕ) × Lists (Message L) l × (length l ≡ length L.sections * L.t - (2 * L.t - divisor L))
  message_count_lem some = (messages L, message_lists, length_messages some)

  -- a forest of erasures has at most 2t - g places
  pub forest_length : 0 < length L.sections → (E : List ℕ) → Erased L E → Forest L E → length E ≤ 2 * L.t - divisor L
  forest_length some E h f = omega (arith, roots_forest L ok f, roots_many h)
