-- T2 to T6 together decide every block with erasures.
use Rattle.std.specs.Prelude.{◌≡◌, ◌⊎◌, List, ℕ, ◌*◌, ◌/◌, ◌<◌, length, replicate}
use Rattle.std.proofs.Common.{sym, ◌∙◌, inl, inr, ⊎_elim}
use Rattle.math.specs.Members.{◌∈◌}
use Rattle.plan.specs.Layout.{Layout, Valid}
use Rattle.code.specs.Codewords.{at, Agrees, Single, TwoOrMore, None}
use Rattle.code.specs.Cycles.{Cycle}
use Rattle.code.specs.Components.{Inconsistent}
use Rattle.code.specs.Figures.{Pair, pair_number}
use Rattle.code.specs.Laws.Forest.{Erased, Forest, above}
use Rattle.code.proofs.Laws.Basics.{places_∈}
use Rattle.code.proofs.Laws.Labels.{dec_connected}
use Rattle.code.proofs.Laws.Balance.{crossed, exists, inconsistent_or_balanced}
use Rattle.code.proofs.Laws.Unique.{forest_zero, forest_unique}
use Rattle.code.proofs.Laws.CycleLaws.{two, forest_or_cycle}
use Rattle.code.proofs.Laws.CycleUnique as unique
use Rattle.code.proofs.Laws.Pairs.{pair_some, pair_cycle}

module _ (L : Layout) (ok : Valid L) where
  -- a component that does not add up to 0 leaves no agreeing codeword
  pub none_agrees : (E v l : List ℕ) → Erased L E → Inconsistent L E (at v) l → None (Agrees L E v)
  none_agrees E v l er bad w a =
      let s = crossed L ok E er (at v) l bad.component bad.unbalanced (at w) (λ c m out. a.unmarked c (places_∈ L m).0 out) in
      s.2 (a.codeword.sums s.0 ((bad.component.exact s.0).0 s.1).0)

  pub decide : (E v : List ℕ) → Erased L E → length v ≡ L.n * L.t → ((c : ℕ) → at v c < 256) →
      Single (Agrees L E v) ⊎ ((TwoOrMore (Agrees L E v) × ((l : List ℕ) × Cycle L E l))
      ⊎ (None (Agrees L E v) × ((l : List ℕ) × Inconsistent L E (at v) l)))
  decide E v er whole byte =
      ⊎_elim
      (λ bad. inr (inr (none_agrees E v bad.0 er bad.1, bad)))
      (λ balanced.
      let w = exists L ok E v er whole byte balanced in
      ⊎_elim
      (λ forest. inl (record { one = w.0; has = w.1; only_one = λ x a. forest_unique L ok E v x w.0 er forest a w.1 }))
      (λ cycle. inr (inl (two L ok E v w.0 cycle.0 er cycle.1 w.1, cycle)))
      (forest_or_cycle L ok (dec_connected L) E er))
      (inconsistent_or_balanced L ok E (at v))

  -- where a single codeword agrees, the erasures are a forest: a cycle would give a second
  pub single_forest : (E v : List ℕ) → Erased L E → Single (Agrees L E v) → Forest L E
  single_forest E v er s =
      ⊎_elim (λ forest. forest)
      (λ cycle. let t = two L ok E v s.one cycle.0 er cycle.1 s.has in absurd (t.differ (s.only_one t.one t.has ∙ sym (s.only_one t.other t.other_has))))
      (forest_or_cycle L ok (dec_connected L) E er)

  pub cycle_unique : {E l m : List ℕ} {c : ℕ} → Erased L E → c ∈ E → Forest L (above c E) → Cycle L E l → Cycle L E m →
      at l 0 ≡ c → at m 0 ≡ c → l ≡ m
  cycle_unique = unique.cycle_unique L ok (λ F er forest x out sums. forest_zero L ok er.inside forest x out sums)

  -- the loose set of the pair sentence holds a cycle, and every cycle inside the two sections has that many places
  pub pair_cycle_some : (i j : ℕ) → Pair L i j → (E : List ℕ) × (l : List ℕ) × Erased L E × Cycle L E l
      × ((c : ℕ) → c ∈ E → (c / L.t ≡ i) ⊎ (c / L.t ≡ j)) × (length l ≡ pair_number L i j)
  pair_cycle_some i j pair =
      let s = pair_some L ok i j pair in
      ⊎_elim
      (λ forest. absurd (s.4.differ (forest_unique L ok s.0 (replicate (L.n * L.t) 0) s.4.one s.4.other s.1 forest s.4.has s.4.other_has)))
      (λ cycle. (s.0, cycle.0, s.1, cycle.1, s.2, pair_cycle L ok i j pair s.0 cycle.0 s.1 cycle.1 s.2))
      (forest_or_cycle L ok (dec_connected L) s.0 s.1)
