-- The table of marks: its start, one mark, the end of a row, and what the rule is at the end.
-- Main results: marked_start, mark_skips, mark_new, mark_old, row_ends, rule_keeps, rule_breaks.
use Rattle.std.specs.Prelude.{◌≡◌, refl, ◌⊎◌, ◌≢◌, Bool, true, false, not, List, ℕ, ◌+◌, ◌-◌, ◌%◌, ◌≤◌, ◌<◌, set, replicate}
use Rattle.std.proofs.Math.Path.{sym}
use Rattle.std.proofs.Common.{◌∙◌, ap, inr, true≢false, length-set, get_or-set_same, get_or-set_other}
use Rattle.std.proofs.Math.Logic.{inl, ⊎_elim, by_cases}
use native.Mathlib.Omega.{arith}
use Rattle.std.proofs.Math.Nat.{mod-eq_of_lt, add-mod_right}
use Rattle.std.proofs.Math.Decide.{ℕ_discrete}
use Rattle.std.proofs.Math.ListN.{get_or}
use Rattle.std.proofs.lemmas.List.{length-replicate}
use Rattle.std.proofs.lemmas.Bool.{not-true, not-false}
use Rattle.bounds.specs.Bounds.{max_t}
use Rattle.math.specs.MembersLaws.{∈_up_to, up_to_∈}
use Rattle.plan.specs.Layout.{layout}
use Rattle.code.specs.Figures.{Pair, Ruler}
use Rattle.code.proofs.Laws.Pairs.{zero_at}
use Rattle.differences.specs.Differences.{difference_of, Before, Met, Marked, Fresh, RowDone, KeepsRule}

-- the difference by its two cases
module _ (s : List ℕ) (i j : ℕ) {t p q : ℕ} (hp : p ≡ get_or s i 0) (hq : q ≡ get_or s j 0) where
  pub difference_wraps : p < q → get_or s j 0 < t → (p + t - q ≡ difference_of t s i j) × (p + t - q < t)
  unfolding difference_of
  difference_wraps h g =
      let l : get_or s i 0 + t - get_or s j 0 < t = omega arith in
      let e : p + t - q ≡ get_or s i 0 + t - get_or s j 0 = omega arith in
      (e ∙ sym (mod-eq_of_lt l), omega arith)

  pub difference_plain : q ≤ p → get_or s i 0 < t → (p - q ≡ difference_of t s i j) × (p - q < t)
  unfolding difference_of
  difference_plain h g =
      let e : get_or s i 0 + t - get_or s j 0 ≡ p - q + t = omega arith in
      let l : p - q < t = omega arith in
      (sym (ap (λ (x : ℕ). x % t) e ∙ add-mod_right (p - q) t ∙ mod-eq_of_lt l), l)

module _ {n : ℕ} where
  -- the same pair before another one
  moved : {i j i' j' k l : ℕ} → Before n i j k l → (k < i') ⊎ ((k ≡ i') × (l < j')) → Before n i' j' k l
  moved b p = record { differ = b.differ; first = b.first; second = b.second; before = p }

  more : {i j k l : ℕ} → Before n i j k l → Before n i (j + 1) k l
  more b = moved b (⊎_elim (λ h. inl h) (λ h. inr (h.0, omega arith)) b.before)

  -- of the pairs up to i, j the last is i, j itself
  last : {i j k l : ℕ} {C : Type 0} → Before n i (j + 1) k l → (Before n i j k l → C) → (k ≡ i → l ≡ j → C) → C
  last {i} {j} {k} {l} b f g =
      ⊎_elim (λ h. f (moved b (inl h)))
      (λ h. by_cases (ℕ_discrete l j) (λ e. g h.0 e) (λ o. f (moved b (inr (h.0, omega arith))))) b.before

  pair_of : (t : ℕ) (s : List ℕ) {i j k l : ℕ} → Before n i j k l → Pair (layout n t s) k l
  unfolding layout
  pair_of t s b = record { first = ∈_up_to b.first; second = ∈_up_to b.second; differ = b.differ }

  pair_here : {i j : ℕ} → i ≢ j → i < n → j < n → Before n i (j + 1) i j
  pair_here o a b = record { differ = o; first = a; second = b; before = inr (refl, omega arith) }

module _ {n t : ℕ} {s : List ℕ} where
  pub marked_start : t ≤ max_t → Marked n t s 0 0 (replicate max_t 0)
  marked_start h =
      record {
        long = simp length-replicate h;
        marked = λ k l b. absurd (nothing b);
        met = λ d m. absurd (m (zero_at max_t d));
        distinct = λ k l k' l' b b' e. absurd (nothing b);
      }
    where
      nothing : {k l : ℕ} → Before n 0 0 k l → ⊥
      nothing b = ⊎_elim (λ h. omega arith) (λ h. omega arith) b.before

  -- the same pairs under another name
  same_pairs : {i j i' j' : ℕ} {marks : List ℕ} → ((k l : ℕ) → Before n i' j' k l → Before n i j k l)
      → ((k l : ℕ) → Before n i j k l → Before n i' j' k l) → Marked n t s i j marks → Marked n t s i' j' marks
  same_pairs back forth m =
      record {
        long = m.long;
        marked = λ k l b. m.marked k l (back k l b);
        met = λ d x. let y = m.met d x in record { k = y.k; l = y.l; pair = forth y.k y.l y.pair; value = y.value };
        distinct = λ k l k' l' b b' e. m.distinct k l k' l' (back k l b) (back k' l' b') e;
      }

  marked_skips : {i j : ℕ} {marks : List ℕ} → i ≡ j → Marked n t s i j marks → Marked n t s i (j + 1) marks
  marked_skips e = same_pairs (λ k l b. last b (λ x. x) (λ a c. absurd (b.differ (a ∙ e ∙ sym c)))) (λ k l b. more b)

  marked_row : {i j : ℕ} {marks : List ℕ} → n ≤ j → Marked n t s i j marks → Marked n t s (i + 1) 0 marks
  marked_row {i} {j} h =
      same_pairs
      (λ k l b.
      let y = b.second in
      ⊎_elim (λ x. by_cases (ℕ_discrete k i) (λ e. moved b (inr (e, omega arith))) (λ o. moved b (inl (omega arith))))
      (λ x. absurd (omega arith)) b.before)
      (λ k l b. moved b (inl (⊎_elim (λ x. omega arith) (λ x. omega arith) b.before)))

  module _ {i j d : ℕ} {marks : List ℕ} (this : Before n i (j + 1) i j) (value : d ≡ difference_of t s i j) (inside : d < t) (m : Marked n t s i j marks) where
    marked_new : get_or marks d 0 ≡ 0 → Marked n t s i (j + 1) (set marks d 1)
    marked_new empty =
        record {
          long = simp length-set m.long;
          marked = marked;
          met = met;
          distinct = distinct;
        }
      where
        here : {k l : ℕ} → k ≡ i → l ≡ j → difference_of t s k l ≡ d
        here {k} {l} a c = cc

        other : {k l : ℕ} → Before n i j k l → difference_of t s k l ≢ d
        other {k} {l} b e = m.marked k l b (ap (λ (x : ℕ). get_or marks x 0) e ∙ empty)

        set_here : get_or (set marks d 1) d 0 ≡ 1
        set_here = let l = m.long in get_or-set_same marks d 1 0 (omega arith)

        marked : (k l : ℕ) → Before n i (j + 1) k l → get_or (set marks d 1) (difference_of t s k l) 0 ≢ 0
        marked k l b z =
            last b (λ x. m.marked k l x (sym (get_or-set_other marks d (difference_of t s k l) 1 0 (other x)) ∙ z))
            (λ a c. let e : ◌≡◌ {A = ℕ} 1 0 = sym set_here ∙ ap (λ (x : ℕ). get_or (set marks d 1) x 0) (sym (here a c)) ∙ z in omega arith)

        met : (x : ℕ) → get_or (set marks d 1) x 0 ≢ 0 → Met n t s i (j + 1) x
        met x h =
            by_cases (ℕ_discrete x d)
            (λ e. record { k = i; l = j; pair = this; value = sym value ∙ sym e })
            (λ o. let y = m.met x (λ z. h (get_or-set_other marks d x 1 0 o ∙ z)) in record { k = y.k; l = y.l; pair = more y.pair; value = y.value })

        distinct : (k l k' l' : ℕ) → Before n i (j + 1) k l → Before n i (j + 1) k' l' → difference_of t s k l ≡ difference_of t s k' l'
            → (k ≡ k') × (l ≡ l')
        distinct k l k' l' b b' e =
            last b (λ x. last b' (λ y. m.distinct k l k' l' x y e) (λ a c. absurd (other x (e ∙ here a c))))
            (λ a c. last b' (λ y. absurd (other y (sym e ∙ here a c))) (λ a' c'. (a ∙ sym a', c ∙ sym c')))

    marked_old : get_or marks d 0 ≢ 0 → ¬ (Ruler (layout n t s))
    unfolding layout difference_of
    marked_old full ruler =
        let x = m.met d full in
        let b = x.pair in
        let same = ruler.rule x.k x.l i j (pair_of t s b) (pair_of t s this) (x.value ∙ value) in
        ⊎_elim (λ h. let e = same.0 in omega arith) (λ h. let e = same.1 in omega arith) b.before

  marked_all : {i : ℕ} {marks : List ℕ} → n ≤ i → Marked n t s i 0 marks → Ruler (layout n t s)
  unfolding layout difference_of
  marked_all {i} h m = record { rule = λ k l k' l' p q e. m.distinct k l k' l' (passed k l p) (passed k' l' q) e }
    where
      passed : (k l : ℕ) → Pair (layout n t s) k l → Before n i 0 k l
      passed k l p =
          let a = up_to_∈ n p.first in
          let b = up_to_∈ n p.second in
          record { differ = p.differ; first = a; second = b; before = inl (omega arith) }

-- the three answers of a mark
module _ {t : ℕ} {s : List ℕ} {i j : ℕ} {marks : List ℕ} where
  pub mark_skips : i ≡ j → Fresh t s i j marks marks true
  mark_skips e = record { goes_on = λ n a b m r. marked_skips e m; stops = λ n a b m r. absurd (true≢false r) }

  pub mark_new : {d : ℕ} → i ≢ j → d ≡ difference_of t s i j → d < t → get_or marks d 0 ≡ 0 → Fresh t s i j marks (set marks d 1) true
  mark_new o e h z = record { goes_on = λ n a b m r. marked_new (pair_here o a b) e h m z; stops = λ n a b m r. absurd (true≢false r) }

  pub mark_old : {d : ℕ} → i ≢ j → d ≡ difference_of t s i j → d < t → get_or marks d 0 ≢ 0 → Fresh t s i j marks marks false
  mark_old o e h z = record { goes_on = λ n a b m r. absurd (true≢false (sym r)); stops = λ n a b m r. marked_old (pair_here o a b) e h m z }

-- a row of marks: one more, the answer where one was met before, and the answer at its end
module _ {n t : ℕ} {s : List ℕ} {i : ℕ} where
  pub row_more : {j : ℕ} {marks after : List ℕ} {r : Bool} → Fresh t s i j marks after r → i < n → j < n → Marked n t s i j marks
      → not r ≡ false → Marked n t s i (j + 1) after
  row_more {r = r} f a b m e = f.goes_on n a b m (not-false r e)

  pub row_stops : {j : ℕ} {marks after : List ℕ} {r : Bool} (last : List ℕ) → Fresh t s i j marks after r → i < n → j < n
      → Marked n t s i j marks → not r ≡ true → RowDone n t s i last false
  row_stops {r = r} last f a b m e = record { goes_on = λ z. absurd (true≢false (sym z)); stops = λ z. f.stops n a b m (not-true r e) }

  pub row_ends : {j : ℕ} {marks : List ℕ} → n ≤ j → Marked n t s i j marks → RowDone n t s i marks true
  row_ends h m = record { goes_on = λ z. marked_row h m; stops = λ z. absurd (true≢false z) }

  -- all rows
  pub rule_more : {after : List ℕ} {r : Bool} → RowDone n t s i after r → not r ≡ false → Marked n t s (i + 1) 0 after
  rule_more {r = r} d e = d.goes_on (not-false r e)

  pub rule_breaks : {after : List ℕ} {r : Bool} → RowDone n t s i after r → not r ≡ true → KeepsRule n t s false
  rule_breaks {r = r} d e = record { keeps = λ z. absurd (true≢false (sym z)); breaks = λ z. d.stops (not-true r e) }

  pub rule_keeps : {marks : List ℕ} → n ≤ i → Marked n t s i 0 marks → KeepsRule n t s true
  rule_keeps h m = record { keeps = λ z. marked_all h m; breaks = λ z. absurd (true≢false z) }
