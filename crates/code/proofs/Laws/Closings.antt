-- The places that close a cycle of places above them: what a spanning forest leaves out. They are the fetch list, and of all places they are the message places.
-- Main results: closings_lists, closings_leave, closings_fewest.
use Rattle.std.specs.Prelude.{◌≡◌, ◌↔◌, not, List, ℕ, ◌+◌, ◌≤◌, length}
use Rattle.std.proofs.Common.{subst, sym, ⊎_elim, arith}
use Rattle.std.proofs.Math.Logic.{by_cases}
use Rattle.std.proofs.lemmas.Bool.{not-true}
use Rattle.math.specs.Members.{◌∈◌, is_in, Rising}
use Rattle.math.specs.MembersLaws.{∈_keep, keep_∈, keep_split, rising_keep, rising_distinct, rising_ext, distinct_keep, is_in_∈, ∈_is_in, is_in_∉, ∉_is_in}
use Rattle.math.specs.Pigeonhole.{distinct_length}
use Rattle.plan.specs.Layout.{Layout, Valid, top, bottom}
use Rattle.code.specs.Cycles.{Lowest}
use Rattle.code.specs.Components.{Connected}
use Rattle.code.specs.Messages.{Lists}
use Rattle.code.specs.FetchList.{less, NoCycle}
use Rattle.code.specs.Laws.Forest.{Erased, Forest, above}
use Rattle.code.proofs.Laws.Labels.{label_le, label_lowest, dec_connected, connected_own, connected_mono}
use Rattle.code.specs.Laws.Roots.{roots}
use Rattle.code.proofs.Laws.Roots.{∈_roots, roots_∈, distinct_roots, roots_forest}
use Rattle.code.proofs.Laws.Paths.{path}
use Rattle.code.proofs.Laws.CycleLaws.{forest_or_cycle, forest_no_cycle}
use Rattle.code.specs.Laws.Spanning.{spanning}
use Rattle.code.proofs.Laws.Spanning.{spanning_∈, spanning_exact, spanning_forest, spanning_connected, erased_spanning}
use Rattle.code.specs.Laws.Closings.{closings}

-- ---- one list without another

pub ∈_less : {c : ℕ} {E G : List ℕ} → c ∈ E → ¬ (c ∈ G) → c ∈ less E G
unfolding less
∈_less {G} m n = ∈_keep (λ d. not (is_in d G)) m (rw (∉_is_in n))

pub less_∈ : {c : ℕ} (E G : List ℕ) → c ∈ less E G → (c ∈ E) × ¬ (c ∈ G)
unfolding less
less_∈ {c} E G m = let k = keep_∈ (λ d. not (is_in d G)) E m in (k.0, is_in_∉ c G (not-true (is_in c G) k.1))

pub rising_less : {E : List ℕ} (G : List ℕ) → Rising E → Rising (less E G)
unfolding less
rising_less G r = rising_keep (λ d. not (is_in d G)) r

pub erased_less : {L : Layout} {E : List ℕ} (G : List ℕ) → Erased L E → Erased L (less E G)
erased_less {E} G er = record { rising = rising_less G er.rising; inside = λ c m. er.inside c (less_∈ E G m).0 }

-- at most the length of G goes
length_less : {E : List ℕ} (G : List ℕ) → Rising E → length E ≤ length (less E G) + length G
unfolding less
length_less {E} G r =
    let k = distinct_length (distinct_keep (λ c. is_in c G) (rising_distinct r)) (λ c m. is_in_∈ c G (keep_∈ (λ d. is_in d G) E m).1) in
    omega (arith, keep_split (λ c. is_in c G) E)

-- and all of it where E holds it
length_taken : {E G : List ℕ} → Rising E → Rising G → ((c : ℕ) → c ∈ G → c ∈ E) → length (less E G) + length G ≡ length E
unfolding less
length_taken {E} {G} r g h =
    let k = distinct_length (rising_distinct g) (λ c m. ∈_keep (λ d. is_in d G) (h c m) (∈_is_in m)) in
    let l = length_less G r in
    omega (arith, keep_split (λ c. is_in c G) E)

module _ (L : Layout) {E : List ℕ} (er : Erased L E) where
  pub rising_closings : Rising (closings L E)
  unfolding closings
  rising_closings = rising_less (spanning L E) er.rising

  -- their rows are connected by the places above them
  pub closings_exact : (c : ℕ) → (c ∈ closings L E) ↔ ((c ∈ E) × Connected L (above c E) (top L c) (bottom L c))
  unfolding closings
  closings_exact c = (
    λ m. let k = less_∈ E (spanning L E) m in
        (k.0, by_cases (dec_connected L (above c E) (top L c) (bottom L c)) (λ h. h) (λ n. absurd (k.1 ((spanning_exact L er.rising k.0).1 n)))),
    λ p. ∈_less p.0 (λ m. (spanning_exact L er.rising p.0).0 m p.1),
  )

  pub length_closings : length (closings L E) + length (spanning L E) ≡ length E
  unfolding closings
  length_closings = length_taken er.rising (erased_spanning L er).rising (λ c. spanning_∈ L E)

  -- without them the spanning forest is left
  pub less_closings : less E (closings L E) ≡ spanning L E
  unfolding closings
  less_closings =
      rising_ext (rising_less (closings L E) er.rising) (erased_spanning L er).rising
      (λ c m. let k = less_∈ E (closings L E) m in
      (spanning_exact L er.rising k.0).1 (λ h. k.1 ((closings_exact c).1 (k.0, h))))
      (λ c m. let i = spanning_∈ L E m in ∈_less i (λ k. (spanning_exact L er.rising i).0 m ((closings_exact c).0 k).1))

module _ (L : Layout) (ok : Valid L) {E : List ℕ} (er : Erased L E) where
  pub closings_lists : Lists (λ c. (c ∈ E) × Lowest L E c) (closings L E)
  closings_lists = record {
    rising = rising_closings L er;
    exact = λ c. (
      λ m. let k = (closings_exact L er c).0 m in (k.0, (path L ok E c er k.0).0 k.1),
      λ p. (closings_exact L er c).1 (p.0, (path L ok E c er p.0).1 p.1),
    );
  }

  pub closings_leave : NoCycle L (less E (closings L E))
  closings_leave = subst (NoCycle L) (sym (less_closings L er)) (forest_no_cycle L ok (spanning L E) (erased_spanning L er) (spanning_forest L E))

  -- a forest of places of E has a root for each root of E
  root_kept : {K : List ℕ} → ((c : ℕ) → c ∈ K → c ∈ E) → {r : ℕ} → r ∈ roots L (spanning L E) → r ∈ roots L K
  root_kept {K} inside {r} m =
      let k = roots_∈ L (spanning L E) m in
      let low = label_lowest (spanning_connected L (connected_mono inside (connected_own L K r))) in
      ∈_roots L K k.0 (omega (arith, label_le L K r, k.1))

  -- so it has at most as many places as the spanning forest
  pub forest_most : {K : List ℕ} → ((c : ℕ) → c ∈ K → c ∈ E) → Forest L K → length K ≤ length (spanning L E)
  forest_most {K} inside f =
      let k = distinct_length (distinct_roots L (spanning L E)) (λ r. root_kept inside) in
      omega (arith, roots_forest L ok f, roots_forest L ok (spanning_forest L E))

  pub closings_fewest : (G : List ℕ) → NoCycle L (less E G) → length (closings L E) ≤ length G
  closings_fewest G none =
      let f = ⊎_elim (λ x. x) (λ c. absurd (none c.0 c.1)) (forest_or_cycle L ok (dec_connected L) (less E G) (erased_less G er)) in
      omega (arith, forest_most (λ c m. (less_∈ E G m).0) f, length_less G er.rising, length_closings L er)
