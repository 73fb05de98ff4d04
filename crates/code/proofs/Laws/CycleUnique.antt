-- The cycle whose lowest place is highest is the only one with that lowest place: two such cycles would differ by a word on a forest.
-- Main result: cycle_unique.
use Rattle.std.specs.Prelude.{◌≡◌, ◌≢◌, List, ℕ, zero, suc, ◌*◌, ◌%◌, ◌≤◌, ◌<◌, length}
use Rattle.std.proofs.Common.{sym, ◌∙◌, ap, ap₂, ⊎_elim, le_antisymm, arith, ext_get_or}
use Rattle.std.proofs.Math.Logic.{by_cases}
use mathlib.Core.List.Memᴰ
use Rattle.std.proofs.Math.Decide.{ℕ_discrete}
use Rattle.math.specs.Members.{◌∈◌}
use Rattle.math.specs.MembersLaws.{dec_in}
use Rattle.math.specs.Pigeonhole.{get_or_∈, ∈_get_or, distinct_by_index, distinct_length}
use Rattle.math.specs.Xor.{◌⊕◌, ⊕_zero, ⊕_self, ⊕_eq}
use Rattle.plan.specs.Layout.{Layout, Valid}
use Rattle.code.specs.Places.{places}
use Rattle.code.specs.Codewords.{at, syndrome}
use Rattle.code.specs.Cycles.{Cycle}
use Rattle.code.specs.Laws.Forest.{Erased, Forest, above}
use Rattle.code.proofs.Laws.Basics.{syndrome_add}
use Rattle.code.proofs.Laws.Paths.{erased_above, after_first}
use Rattle.code.proofs.Laws.CycleLaws.{Mates, next_top, next_bottom, indicator, indicator_in, indicator_out, cycle_inside, cycle_indicator}

-- where two lists have the same members and place i in common, mates of i on the same kind of row are the same
mate_same : {row : ℕ → ℕ} {l m : List ℕ} {i j : ℕ} → Mates row l i j → Mates row m i j → at l j ≢ at l i →
    ((c : ℕ) → c ∈ l → c ∈ m) → at l i ≡ at m i → at l j ≡ at m j
mate_same {row} {l} {m} {i} {j} p q apart on e =
    let k = ∈_get_or (on (at l j) (get_or_∈ l p.right)) in
    ⊎_elim
    (λ u. absurd (apart (sym k.2 ∙ ap (at m) u ∙ sym e)))
    (λ u. sym k.2 ∙ ap (at m) u)
    (q.just k.0 k.1 (ap row k.2 ∙ sym p.same ∙ ap row e))

module _ (L : Layout) (ok : Valid L) where
  module _ {E F l m : List ℕ} (p : Cycle L E l) (q : Cycle L F m) (on : (c : ℕ) → c ∈ l → c ∈ m) where
    step : (i : ℕ) → suc i < length l → suc i < length m → at l i ≡ at m i → at l (suc i) ≡ at m (suc i)
    step i h g e =
        let apart : at l (suc i) ≢ at l i = λ x. let y : suc i ≡ i = p.distinct (suc i) i h (omega arith) x in omega arith in
        by_cases (ℕ_discrete (i % 2) 0)
        (λ z. mate_same (next_top p i h z) (next_top q i g z) apart on e)
        (λ z. mate_same (next_bottom p i h (omega arith)) (next_bottom q i g (omega arith)) apart on e)

    same_at : at l 0 ≡ at m 0 → (i : ℕ) → i < length l → i < length m → at l i ≡ at m i
    same_at e zero h g = e
    same_at e (suc i) h g = step i h g (same_at e i (omega arith) (omega arith))

    shorter : length l ≤ length m
    shorter = distinct_length (distinct_by_index l p.distinct) on

  -- a cycle is known by its members and its first place
  pub cycle_by_members : {E F l m : List ℕ} → Cycle L E l → Cycle L F m → ((c : ℕ) → c ∈ l → c ∈ m) → ((c : ℕ) → c ∈ m → c ∈ l) →
      at l 0 ≡ at m 0 → l ≡ m
  cycle_by_members {l} {m} p q on back e =
      let n : length l ≡ length m = le_antisymm (shorter p q on) (shorter q p back) in
      ext_get_or 0 l m n (λ i h. same_at p q on e i h (omega arith))

  first_in_lem : {E l : List ℕ} → Cycle L E l → at l 0 ∈ l
  first_in_lem {l} p = get_or_∈ l (omega (arith, p.even, p.least))

  others_above : {E l : List ℕ} {c d : ℕ} → Cycle L E l → at l 0 ≡ c → d ∈ l → d ≢ c → d ∈ above c E
  others_above {E} {l} {c} {d} p e i n =
      let k = ∈_get_or i in
      let pos : k.0 ≢ 0 = λ z. n (sym k.2 ∙ ap (at l) z ∙ e) in
      rw (← e) (Memᴰ.cast (sym k.2) (after_first L ok p k.0 (omega arith) k.1))

  module _ (unique : (F : List ℕ) → Erased L F → Forest L F → (x : ℕ → ℕ) → ((d : ℕ) → d ∈ places L → ¬ (d ∈ F) → x d ≡ 0) →
      ((r : ℕ) → r < 2 * L.t → syndrome L x r ≡ 0) → (d : ℕ) → d ∈ places L → x d ≡ 0) where
    -- two cycles with lowest place c have the same members: 1 along both is a word on the forest above c
    same_members : {E l m : List ℕ} {c : ℕ} → Erased L E → Forest L (above c E) → Cycle L E l → Cycle L E m → at l 0 ≡ c → at m 0 ≡ c →
        (d : ℕ) → d ∈ l → d ∈ m
    same_members {E} {l} {m} {c} er fo p q e f d i = by_cases (dec_in d m) (λ k. k) (λ n.
        let z : ◌≡◌ {A = ℕ} 1 0 = sym (indicator_in i) ∙ ⊕_eq (indicator l d) (indicator m d) (zero_at d (cycle_inside L ok p er d i)) ∙ indicator_out n in
        absurd (omega arith))
      where
        x : ℕ → ℕ
        x b = indicator l b ⊕ indicator m b

        outside : (b : ℕ) → b ∈ places L → ¬ (b ∈ above c E) → x b ≡ 0
        outside b k n = by_cases (ℕ_discrete b c)
            (λ u. ap₂ ◌⊕◌ (indicator_in (Memᴰ.cast (u ∙ sym e) (first_in_lem p))) (indicator_in (Memᴰ.cast (u ∙ sym f) (first_in_lem q))) ∙ ⊕_self 1)
            (λ u. ap₂ ◌⊕◌ (indicator_out (λ g. n (others_above p e g u))) (indicator_out (λ g. n (others_above q f g u))) ∙ ⊕_zero 0)

        zero_at : (b : ℕ) → b ∈ places L → x b ≡ 0
        zero_at = unique (above c E) (erased_above c er) fo x outside
            (λ r h. syndrome_add L (indicator l) (indicator m) r ∙ ap₂ ◌⊕◌ (cycle_indicator L ok p er r) (cycle_indicator L ok q er r) ∙ ⊕_zero 0)

    pub cycle_unique : {E l m : List ℕ} {c : ℕ} → Erased L E → c ∈ E → Forest L (above c E) → Cycle L E l → Cycle L E m →
        at l 0 ≡ c → at m 0 ≡ c → l ≡ m
    cycle_unique er i fo p q e f = cycle_by_members p q (same_members er fo p q e f) (same_members er fo q p f e) (e ∙ sym f)
