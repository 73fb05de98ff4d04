-- A round settles a mark and clears two rows or more, so a forest has its number of rounds: at most t, and at most the number of its places.
-- Main results: alone_on, alone_row (a place that is alone, by its row), round_fewer, round_clears; rounds_none,
-- rounds_next, rounds_once, rounds_some, rounds_most.
use Rattle.std.specs.Prelude.{◌≡◌, true, false, List, [], ◌∷◌, eqb}
use Rattle.std.proofs.Math.Path.{refl}
use Rattle.std.proofs.Common.{sym, ◌∙◌, ap, subst, inl, inr, ⊎_elim, true≢false, length-append, eq-eqb, eqb-true}
use Rattle.std.proofs.Math.Logic.{by_cases}
use Rattle.std.proofs.Math.Bool.{not, or-true}
use mathlib.Core.List.Memᴰ
use Prim.Native.Nat.{ℕ, zero, suc, ◌+◌, ◌*◌, ◌≤◌, ◌<◌}
use Rattle.std.proofs.Math.Decide.{dec_lt}
use native.Mathlib.Omega.{arith}
use Rattle.std.proofs.Math.ListN.{length}
use Rattle.std.proofs.lemmas.Bool.{not-true}
use Rattle.math.specs.Members.{◌∈◌, keep, Rising}
use Rattle.math.specs.MembersLaws.{by_test, ∈_keep, keep_∈, rising_keep, distinct_append, length_keep_le, length_keep_lt, ∈_up_to, up_to_∈, rising_up_to}
use Rattle.math.specs.Pigeonhole.{get_or_∈, distinct_length, first_in}
use Rattle.plan.specs.Layout.{Layout, Valid, top, bottom}
use Rattle.code.specs.Places.{Meets}
use Rattle.code.specs.Codewords.{at}
use Rattle.code.proofs.FiguresOnce.{least_once}
use Rattle.code.specs.Rounds.{on_row, alone, round, after, Rounds}
use Rattle.code.specs.Laws.Forest.{Forest}
use Rattle.code.proofs.Laws.Leaves.{on_row_some, on_row_one, forest_sub, touched, touched_∈, ∈_touched, distinct_touched, touched_le, forest_touched, leaves, leaves_∈, distinct_leaves, forest_leaves}

-- ---- a place that is alone

pub alone_on : (L : Layout) (E : List ℕ) (c r : ℕ) → Meets L c r → length (on_row L E r) ≡ 1 → alone L E c ≡ true
unfolding alone
alone_on L E c r (inl h) e = rw (eq-eqb (length (on_row L E (top L c))) 1 (subst (λ s. length (on_row L E s) ≡ 1) h e))
alone_on L E c r (inr h) e =
    rw (eq-eqb (length (on_row L E (bottom L c))) 1 (subst (λ s. length (on_row L E s) ≡ 1) h e)) (or-true (eqb (length (on_row L E (top L c))) 1))

pub alone_row : (L : Layout) (E : List ℕ) (c : ℕ) → alone L E c ≡ true → (r : ℕ) × Meets L c r × (length (on_row L E r) ≡ 1)
unfolding alone
alone_row L E c e =
    by_test (eqb (length (on_row L E (top L c))) 1)
    (λ a. (top L c, inl refl, eqb-true (length (on_row L E (top L c))) 1 a))
    (λ a. (bottom L c, inr refl, eqb-true (length (on_row L E (bottom L c))) 1 (rw a at e)))

-- ---- one round

pub ∈_round : (L : Layout) {E : List ℕ} {c : ℕ} → c ∈ E → alone L E c ≡ false → c ∈ round L E
unfolding round
∈_round L {E} m e = ∈_keep (λ d. not (alone L E d)) m (ap not e)

pub round_∈ : (L : Layout) (E : List ℕ) {c : ℕ} → c ∈ round L E → (c ∈ E) × (alone L E c ≡ false)
unfolding round
round_∈ L E {c} m = let k = keep_∈ (λ d. not (alone L E d)) E m in (k.0, not-true (alone L E c) k.1)

pub rising_round : (L : Layout) {E : List ℕ} → Rising E → Rising (round L E)
unfolding round
rising_round L {E} r = rising_keep (λ d. not (alone L E d)) r

-- no place is left on a row that had exactly one
leaf_clears : (L : Layout) (E : List ℕ) (r : ℕ) → length (on_row L E r) ≡ 1 → ¬ (0 < length (on_row L (round L E) r))
leaf_clears L E r e h =
    let c = on_row_one L (round L E) r h in
    true≢false (sym (alone_on L E c.0 r c.2 e) ∙ (round_∈ L E c.1).1)

module _ (L : Layout) (ok : Valid L) where
  -- a round settles a mark of a forest
  pub round_fewer : {E : List ℕ} → Forest L E → 0 < length E → length (round L E) < length E
  unfolding round
  round_fewer {E} f h =
      let r : ℕ = at (leaves L E) 0 in
      let l : length (on_row L E r) ≡ 1 = (leaves_∈ L E (get_or_∈ (leaves L E) {i = 0} (omega (arith, forest_leaves L ok f (get_or_∈ E h))))).1 in
      let c = on_row_one L E r (omega arith) in
      length_keep_lt (λ d. not (alone L E d)) c.1 (ap not (alone_on L E c.0 r c.2 l))

  -- and clears two of the rows that it touches, or more: its leaves
  pub round_clears : {E : List ℕ} → Forest L E → 0 < length E → length (touched L (round L E)) + 2 ≤ length (touched L E)
  round_clears {E} f h =
      let some : (r : ℕ) → r ∈ touched L (round L E) → 0 < length (on_row L (round L E) r) = λ r m. (touched_∈ L (round L E) m).1 in
      let k = distinct_length (distinct_append (distinct_leaves L E) (distinct_touched L (round L E))
      (λ r a b. leaf_clears L E r (leaves_∈ L E a).1 (some r b)))
      (λ r m. ⊎_elim
      (λ a. let l = leaves_∈ L E a in ∈_touched L E l.0 (omega (arith, l.1)))
      (λ b. let c = on_row_one L (round L E) r (some r b) in ∈_touched L E (touched_∈ L (round L E) b).0 (on_row_some L (round_∈ L E c.1).0 c.2))
      (Memᴰ.append_cases (leaves L E) m)) in
      omega (arith, length-append (leaves L E) (touched L (round L E)), forest_leaves L ok f (get_or_∈ E h))

-- ---- rounds one after the other

rising_after : (L : Layout) (k : ℕ) {E : List ℕ} → Rising E → Rising (after L k E)
unfolding after
rising_after L zero r = r
rising_after L (suc k) r = rising_round L (rising_after L k r)

after_∈ : (L : Layout) (k : ℕ) (E : List ℕ) {c : ℕ} → c ∈ after L k E → c ∈ E
unfolding after
after_∈ L zero E m = m
after_∈ L (suc k) E m = after_∈ L k E (round_∈ L (after L k E) m).0

-- ---- the number of rounds

after_round : (L : Layout) (k : ℕ) (E : List ℕ) → after L k (round L E) ≡ after L (suc k) E
unfolding after
after_round L zero E = refl
after_round L (suc k) E = ap (round L) (after_round L k E)

-- without marks it is 0
pub rounds_none : (L : Layout) → Rounds L [] 0
unfolding after round keep
rounds_none L = record { has = refl; least = λ j e. omega arith }

-- with a mark it is one more than for those that one round leaves
pub rounds_next : (L : Layout) (E : List ℕ) {k : ℕ} → 0 < length E → Rounds L (round L E) k → Rounds L E (suc k)
rounds_next L E {k} h p = record { has = sym (after_round L k E) ∙ p.has; least = later }
  where
    later : (j : ℕ) → after L j E ≡ [] → suc k ≤ j
    later zero e = let z : length E ≡ 0 = ap length (start ∙ e) in absurd (omega arith)
      where
        start : E ≡ after L zero E
        start = unfold after in refl
    later (suc j) e = omega (arith, p.least j (after_round L j E ∙ e))

pub rounds_once : (L : Layout) (E : List ℕ) {j k : ℕ} → Rounds L E j → Rounds L E k → j ≡ k
rounds_once L E = least_once

-- ---- a forest has its number

pub no_places : (l : List ℕ) → ((0 < length l) → ⊥) → l ≡ []
no_places [] h = refl
no_places (c ∷ l) h = absurd (h (omega arith))

module _ (L : Layout) (ok : Valid L) {E : List ℕ} (up : Rising E) (f : Forest L E) where
  pub forest_after : (k : ℕ) → Forest L (after L k E)
  forest_after k = forest_sub L ok up (rising_after L k up) (λ c m. after_∈ L k E m) f

  -- as long as a mark is left, each round has settled one and cleared two rows
  pub after_costs : (k : ℕ) → 0 < length (after L k E) → (k + length (after L k E) ≤ length E) × (2 * k + length (touched L (after L k E)) ≤ 2 * L.t)
  unfolding after round
  after_costs zero h = (omega arith, omega (arith, touched_le L E))
  after_costs (suc k) h =
      let a : 0 < length (after L k E) = omega (arith, length_keep_le (λ d. not (alone L (after L k E) d)) (after L k E)) in
      let i = after_costs k a in
      (omega (arith, i.0, round_fewer L ok (forest_after k) a), omega (arith, i.1, round_clears L ok (forest_after k) a))

  -- so none is left after t rounds, and none after as many as there are marks
  after_t : after L L.t E ≡ []
  after_t = no_places (after L L.t E) (λ h. omega (arith, (after_costs L.t h).1, forest_touched L ok (forest_after L.t) (get_or_∈ (after L L.t E) h)))

  after_all : after L (length E) E ≡ []
  after_all = no_places (after L (length E) E) (λ h. omega (arith, (after_costs (length E) h).0))

  pub rounds_most : {k : ℕ} → Rounds L E k → (k ≤ L.t) × (k ≤ length E)
  rounds_most p = (p.least L.t after_t, p.least (length E) after_all)

  pub rounds_some : (k : ℕ) × Rounds L E k
  rounds_some = elim (first_in (λ j. none (after L j E)) (rising_up_to (suc L.t))) [
    | inl h ↦ (
      h.0,
      record {
        has = h.2;
        least = λ j e. by_cases (dec_lt j (suc L.t)) (λ l. h.3 j (∈_up_to l) e) (λ n. omega (arith, up_to_∈ (suc L.t) h.1));
      },
    )
    | inr h ↦ absurd (h L.t (∈_up_to (omega arith)) after_t)
  ]
    where
      none : (l : List ℕ) → Dec (l ≡ [])
      none [] = yes refl
      none (c ∷ l) = no (λ e. let z : suc (length l) ≡ 0 = ap length e in omega arith)
