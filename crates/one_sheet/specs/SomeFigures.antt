-- Every good plan has its four figures, with no axiom: the pairs are finite, so each figure can be searched for.
-- Main results: find, least_of, figures_some.
use Rattle.std.specs.Prelude.{◌≡◌, refl, ◌⊎◌, [], ◌∷◌, ℕ, zero, suc, ◌+◌, ◌-◌, ◌%◌, ◌≤◌, ◌<◌, length, Ok}
use Rattle.std.proofs.Common.{sym, ◌∙◌, subst, inl, inr, ⊎_elim, arith}
use Rattle.std.proofs.Math.Logic.{by_cases}
use mathlib.Core.Logic.Dec
use Rattle.std.proofs.Math.Decide.{ℕ_discrete, dec_lt, dec_le}
use Rattle.math.specs.Members.{up_to, from}
use Rattle.math.specs.MembersLaws.{∈_up_to, length_up_to, dec_in}
use Rattle.plan.specs.Layout.{Layout, Valid, layout}
use Rattle.plan.specs.Plans.{layout_of, plan_check}
use Rattle.plan.proofs.PlanLaws.{good_bounds, good_valid}
use Rattle.plan.specs.declared.Plan.{Plan}
use Rattle.code.specs.Figures.{Least, Pair, Neighbours, Capability, pair_number, NonzeroWeight, EqualShifts, Ruler, Figures}
use Rattle.code.proofs.Theorems.{parity_count, distance_equal, distance_ruler, distance_other, distance_pair}

-- a number below n with the property, or none
find : (P : ℕ → Type 0) → ((i : ℕ) → Dec (P i)) → (n : ℕ) → Dec ((i : ℕ) × (i < n) × P i)
find P d zero = no (λ x. omega (arith, x.1))
find P d (suc n) =
    by_cases (d n)
    (λ p. yes (n, omega arith, p))
    (λ k. by_cases (find P d n)
    (λ x. yes (x.0, omega (arith, x.1), x.2))
    (λ m. no (λ x. by_cases (ℕ_discrete x.0 n)
    (λ e. k (subst P e x.2))
    (λ e. m (x.0, omega (arith, x.1), x.2)))))

least_below : (P : ℕ → Type 0) → ((i : ℕ) → Dec (P i)) → (n : ℕ) → ((y : ℕ) × Least P y) ⊎ ((i : ℕ) → i < n → P i → ⊥)
least_below P d zero = inr (λ i h p. omega arith)
least_below P d (suc n) =
    ⊎_elim
    (λ r. inl r)
    (λ none. by_cases (d n)
    (λ p. inl (n, record { has = p; least = λ y q. by_cases (dec_lt y n) (λ l. absurd (none y l q)) (λ g. omega arith) }))
    (λ k. inr (λ i h p. by_cases (ℕ_discrete i n) (λ e. k (subst P e p)) (λ e. none i (omega arith) p))))
    (least_below P d n)

-- a property that can be tested and that some number has is had by a least one
pub least_of : (P : ℕ → Type 0) → ((i : ℕ) → Dec (P i)) → (x : ℕ) → P x → (y : ℕ) × Least P y
least_of P d x p = ⊎_elim (λ r. r) (λ none. absurd (none x (omega arith) p)) (least_below P d (suc x))

pair_dec : (L : Layout) (i j : ℕ) → Dec (Pair L i j)
pair_dec L i j =
    by_cases (dec_in i L.sections)
    (λ a. by_cases (dec_in j L.sections)
    (λ b. by_cases (ℕ_discrete i j)
    (λ e. no (λ p. p.differ e))
    (λ n. yes (record { first = a; second = b; differ = n })))
    (λ b. no (λ p. b p.second)))
    (λ a. no (λ p. a p.first))

-- the last of three or more sections, and the first
around_dec : (n i j : ℕ) → Dec ((3 ≤ n) × (i + 1 ≡ n) × (j ≡ 0))
around_dec n i j =
    Dec.of_iff (λ x. (x.0, x.1.0, x.1.1), λ x. (x.0, (x.1, x.2))) (Dec.and (dec_le 3 n) (Dec.and (ℕ_discrete (i + 1) n) (ℕ_discrete j 0)))

neighbours_dec : (L : Layout) (i j : ℕ) → Dec (Neighbours L i j)
neighbours_dec L i j =
    by_cases (pair_dec L i j)
    (λ p. by_cases (ℕ_discrete j (i + 1))
    (λ e. yes (record { pair = p; next = inl e }))
    (λ n. by_cases (around_dec L.n i j)
    (λ a. yes (record { pair = p; next = inr a }))
    (λ m. no (λ q. ⊎_elim n m q.next))))
    (λ n. no (λ q. n q.pair))

module _ (L : Layout) (ok : Valid L) where
  pair_below : {i j : ℕ} → Pair L i j → (i < L.n) × (j < L.n)
  pair_below p = (ok.inside _ p.first, ok.inside _ p.second)

  capability_dec : (R : ℕ → ℕ → Type 0) → ((i j : ℕ) → Dec (R i j)) → ((i j : ℕ) → R i j → (i < L.n) × (j < L.n)) → (x : ℕ) → Dec (Capability L R x)
  capability_dec R d below x =
      by_cases (find (λ i. (j : ℕ) × (j < L.n) × (R i j × (x ≡ pair_number L i j - 1)))
      (λ i. find (λ j. R i j × (x ≡ pair_number L i j - 1)) (λ j. Dec.and (d i j) (ℕ_discrete x (pair_number L i j - 1))) L.n) L.n)
      (λ w. yes (record { i = w.0; j = w.2.0; related = w.2.2.0; value = w.2.2.1 }))
      (λ n. no (λ c. let b = below c.i c.j c.related in n (c.i, b.0, (c.j, b.1, (c.related, c.value)))))

  equal_dec : Dec (EqualShifts L)
  equal_dec =
      by_cases (find (λ i. (j : ℕ) × (j < L.n) × (Pair L i j × (L.shift i ≡ L.shift j)))
      (λ i. find (λ j. Pair L i j × (L.shift i ≡ L.shift j)) (λ j. Dec.and (pair_dec L i j) (ℕ_discrete (L.shift i) (L.shift j))) L.n) L.n)
      (λ w. yes (record { i = w.0; j = w.2.0; pair = w.2.2.0; equal = w.2.2.1 }))
      (λ n. no (λ e. let b = pair_below e.pair in n (e.i, b.0, (e.j, b.1, (e.pair, e.equal)))))

  -- two different pairs with one difference
  Clash : ℕ → ℕ → ℕ → ℕ → Type 0
  Clash i j k l =
      Pair L i j × (Pair L k l × (((L.shift i + L.t - L.shift j) % L.t ≡ (L.shift k + L.t - L.shift l) % L.t) × (((i ≡ k) × (j ≡ l)) → ⊥)))

  clash_dec : (i j k l : ℕ) → Dec (Clash i j k l)
  unfolding Clash
  clash_dec i j k l =
      Dec.and (pair_dec L i j) (Dec.and (pair_dec L k l)
      (Dec.and (ℕ_discrete ((L.shift i + L.t - L.shift j) % L.t) ((L.shift k + L.t - L.shift l) % L.t)) (Dec.not (Dec.and (ℕ_discrete i k) (ℕ_discrete j l)))))

  clashes : Dec ((i : ℕ) × (i < L.n) × ((j : ℕ) × (j < L.n) × ((k : ℕ) × (k < L.n) × ((l : ℕ) × (l < L.n) × Clash i j k l))))
  clashes =
      find (λ i. (j : ℕ) × (j < L.n) × ((k : ℕ) × (k < L.n) × ((l : ℕ) × (l < L.n) × Clash i j k l)))
      (λ i. find (λ j. (k : ℕ) × (k < L.n) × ((l : ℕ) × (l < L.n) × Clash i j k l))
      (λ j. find (λ k. (l : ℕ) × (l < L.n) × Clash i j k l)
      (λ k. find (λ l. Clash i j k l) (λ l. clash_dec i j k l) L.n) L.n) L.n) L.n

  ruler_dec : Dec (Ruler L)
  unfolding Clash
  ruler_dec =
      by_cases clashes
      (λ w. let c = w.2.2.2.2 in no (λ r. c.1.1.1 (r.rule w.0 w.2.0 w.2.2.0 w.2.2.2.0 c.0 c.1.0 c.1.1.0)))
      (λ none. yes (record {
        rule = λ i j k l p q e.
            by_cases (Dec.and (ℕ_discrete i k) (ℕ_discrete j l))
            (λ r. r)
            (λ n. let a = pair_below p in
            let b = pair_below q in
            absurd (none (i, a.0, (j, a.1, (k, b.0, (l, b.1, (p, (q, (e, n)))))))));
      }))

  distance_some : {i j : ℕ} → (length L.sections ≡ 2 → L.sections ≡ i ∷ j ∷ []) → 2 ≤ length L.sections → (x : ℕ) × Least (NonzeroWeight L) x
  distance_some {i} {j} two some =
      by_cases (ℕ_discrete (length L.sections) 2)
      (λ e. (pair_number L i j, distance_pair L ok i j (two e)))
      (λ n. by_cases equal_dec
      (λ e. (2, distance_equal L ok e))
      (λ d. by_cases ruler_dec
      (λ r. (6, distance_ruler L ok (omega arith) r))
      (λ b. (4, distance_other L ok (omega arith) d b))))

two_sections : (n : ℕ) → n ≡ 2 → up_to n ≡ 0 ∷ 1 ∷ []
unfolding up_to from
two_sections n e = rw e

-- the figures of a good plan
pub figures_some : (p : Plan) → plan_check p ≡ Ok tt → (a : ℕ) × (b : ℕ) × (c : ℕ) × (d : ℕ) × Figures (layout_of p) a b c d
unfolding layout_of layout
figures_some p g =
    let L = layout_of p in
    let ok = good_valid p g in
    let s = good_bounds p g in
    let one : Pair L 0 1 = record { first = ∈_up_to (omega (arith, s)); second = ∈_up_to (omega (arith, s)); differ = λ e. omega arith } in
    let l = length_up_to p.n in
    let parity = parity_count L ok (omega (arith, s)) in
    let pair = least_of (Capability L (Pair L)) (capability_dec L ok (Pair L) (pair_dec L) (λ i j q. pair_below L ok q))
    (pair_number L 0 1 - 1) (record { i = 0; j = 1; related = one; value = refl }) in
    let near = least_of (Capability L (Neighbours L)) (capability_dec L ok (Neighbours L) (neighbours_dec L) (λ i j q. pair_below L ok q.pair))
    (pair_number L 0 1 - 1) (record { i = 0; j = 1; related = record { pair = one; next = inl refl }; value = refl }) in
    let far = distance_some L ok {i = 0} {j = 1} (λ e. two_sections p.n (sym l ∙ e)) (omega (arith, s)) in (
      length parity.0,
      pair.0,
      near.0,
      far.0,
      record { parity_places = (parity.0, (parity.1, refl)); pair_figure = pair.1; neighbour_figure = near.1; distance_is = far.1 },
    )
