-- What the settling of one row promises (Takes): its place leaves the erasures, and what is added there is forced.
-- L is always the layout of n, t and the shifts.
use Rattle.std.specs.Prelude.{◌≡◌, ◌≢◌, ◌⊎◌, List, ℕ, ◌+◌, ◌-◌, ◌*◌, ◌/◌, ◌≤◌, ◌<◌, length, get_or, set}
use Rattle.std.proofs.Common.{sym, ◌∙◌, subst, inl, inr, arith, length-set, get_or-set_same, get_or-set_other}
use Rattle.std.proofs.Math.Path.{ap}
use Rattle.std.proofs.Math.Logic.{⊎_elim}
use Rattle.math.specs.Members.{◌∈◌, without}
use Rattle.math.specs.MembersLaws.{up_to_∈, rising_distinct}
use Rattle.math.specs.Xor.{◌⊕◌, ⊕_self, ⊕_lt}
use Rattle.math.specs.SumsLaws.{only_true}
use Rattle.bounds.specs.Bounds.{max_t, max_places}
use Rattle.plan.specs.Layout.{Layout, layout, top, bottom}
use Rattle.plan.specs.GoodPlan.{GoodPlan, plan_valid}
use Rattle.code.specs.Places.{places, Meets}
use Rattle.code.specs.Codewords.{syndrome}
use Rattle.code.specs.Checks.{update}
use Rattle.code.proofs.Laws.Basics.{places_∈, meets_true, top≢bottom, meets_row}
use Rattle.code.proofs.Laws.Leaves.{on_row_some}
use Rattle.tables.specs.Picture.{tally_unit, weight, counts, Picture, Pictured}
use Rattle.tables.specs.PictureLaws.{Touched, length_on_row_without, picture_less}
use Rattle.tables.specs.Sizes.{good_∈}
use Rattle.tables.proofs.Bounds.{tally_counts, tally_some}
use Rattle.tables.specs.Beside.{Beside}
use Rattle.tables.proofs.Beside.{beside_place, beside_sides}
use Rattle.tables.specs.Singles.{Single, Lowers, single}
use Rattle.settling.specs.Settling.{row_forces, syndrome_byte, touched_two}

-- two rows that the tables have, the second with an erasure of weight v left
pub record Rows (sum tally : List ℕ) (a b v : ℕ) : Type 0 where
  pub sum_row : a < length sum
  pub tally_row : a < length tally
  pub sum_other : b < length sum
  pub tally_other : b < length tally
  pub some_other : v ≤ get_or tally b 0
  pub apart : a ≢ b

-- a place of weight v, to whose symbol x is added, is taken out of row a, which has no other erasure, and of row b, where `rest` are left
pub record Removes (sum tally sum' tally' : List ℕ) (a b v x rest : ℕ) : Type 0 where
  pub sums : sum' ≡ set (set sum a 0) b (get_or (set sum a 0) b 0 ⊕ x)
  pub tallies : tally' ≡ set (set tally a 0) b (get_or (set tally a 0) b 0 - v)
  pub rests : rest ≡ counts tally' b

module _ {sum tally : List ℕ} {a b v : ℕ} (h : Rows sum tally a b v) where
  pub rows_sum : b < length (set sum a 0)
  rows_sum = rw (length-set sum a 0) h.sum_other

  pub rows_tally : b < length (set tally a 0)
  rows_tally = rw (length-set tally a 0) h.tally_other

  pub rows_some : v ≤ get_or (set tally a 0) b 0
  rows_some = rw (get_or-set_other tally a b 0 0 (λ q. h.apart (sym q))) h.some_other

  pub removes : {sum' tally' : List ℕ} {x own rest : ℕ} → sum' ≡ set (set sum a 0) b (get_or (set sum a 0) b 0 ⊕ x)
      → own ≡ get_or (set tally a 0) b 0 - v → tally' ≡ set (set tally a 0) b own → rest ≡ own / tally_unit
      → Removes sum tally sum' tally' a b v x rest
  unfolding counts
  removes {own = own} s o l r = record {
    sums = s;
    tallies = l ∙ ap (set (set tally a 0) b) o;
    rests = r ∙ ap (λ y. y / tally_unit) (rw l (sym (get_or-set_same (set tally a 0) b own 0 rows_tally)));
  }

-- row r has one erasure left
pub record One (n t : ℕ) (shifts sum tally : List ℕ) (r : ℕ) : Type 0 where
  pub good : GoodPlan n t shifts
  pub pictured : Pictured (layout n t shifts) sum tally
  pub row : r < 2 * t
  pub left_one : counts tally r ≡ 1

-- after place c, whose symbol has x added in every codeword that agrees
pub record Next (L : Layout) (E : List ℕ) (u : ℕ → ℕ) (sum' tally' : List ℕ) (c x : ℕ) : Type 0 where
  pub member : c ∈ E
  pub picture : Picture L (without c E) (update u c (u c ⊕ x)) sum' tally'
  pub forces : (w : ℕ → ℕ) → ((r : ℕ) → r < 2 * L.t → syndrome L w r ≡ 0) → ((d : ℕ) → d ∈ places L → ¬ (d ∈ E) → w d ≡ u d) → w c ≡ u c ⊕ x

-- the one erasure of row r, place c, is settled: x is added to its symbol; b is its other row
pub record Takes (L : Layout) (sum tally sum' tally' : List ℕ) (r c x b : ℕ) : Type 0 where
  pub inside : b < 2 * L.t
  pub lowers : Lowers tally tally' r b
  pub next : (E : List ℕ) (u : ℕ → ℕ) → Picture L E u sum tally → Next L E u sum' tally' c x

module _ {n t : ℕ} {shifts sum tally : List ℕ} {r : ℕ} (o : One n t shifts sum tally r) where
  -- the one erasure of the row, for whatever block the tables picture
  only_one : {E : List ℕ} {u : ℕ → ℕ} → Picture (layout n t shifts) E u sum tally → (c : ℕ) × Single (layout n t shifts) E r (get_or tally r 0) c
  unfolding layout
  only_one p = single (layout n t shifts) p.counted o.row (sym (tally_counts o.good p.counted o.row) ∙ o.left_one)

  -- the tally says its section
  its_section : {E : List ℕ} {u : ℕ → ℕ} (p : Picture (layout n t shifts) E u sum tally)
      → ((only_one p).0 / t < n) × ((only_one p).0 / t ≡ get_or tally r 0 - tally_unit)
  unfolding layout weight
  its_section p =
      let s = (only_one p).1 in
      let i : (only_one p).0 / t < n = up_to_∈ n (places_∈ (layout n t shifts) s.inside).1 in
      (i, omega (arith, s.weighs, i, o.good.n_max))

  pub one_long : (r < length sum) × (r < length tally)
  unfolding layout
  one_long = let p = o.pictured.picture in (omega (arith, o.row, p.sum_long), omega (arith, o.row, p.counted.long))

  pub one_few : r < 2 * max_t
  one_few = omega (arith, o.row, o.good.t_max)

  pub one_small : (tally_unit ≤ get_or tally r 0) × (get_or tally r 0 < 2 * tally_unit)
  unfolding counts
  one_small = omega (arith, o.left_one)

  -- j is the section
  module _ {j : ℕ} (ej : j ≡ get_or tally r 0 - tally_unit) where
    pub one_shift : (j < length shifts) × (get_or shifts j 0 < t)
    one_shift =
        let i = its_section o.pictured.picture in
        let h : j < n = rw (ej ∙ sym i.1) i.0 in
        (omega (arith, o.good.long), o.good.below j h)

    -- c is its place on the row, and b the row beside
    module _ {k b : ℕ} (q : Beside t (get_or shifts j 0) r k b) where
      spot : {E : List ℕ} {u : ℕ → ℕ} → Picture (layout n t shifts) E u sum tally → Single (layout n t shifts) E r (get_or tally r 0) (j * t + k)
      spot {E} p =
          let s = only_one p in
          subst (λ d. Single (layout n t shifts) E r (get_or tally r 0) d)
          (sym (beside_place o.good s.1.inside s.1.meet ((its_section p).1 ∙ sym ej) q)) s.1

      pub one_place : j * t + k < max_places
      one_place = omega (arith, good_∈ o.good (spot o.pictured.picture).inside, o.good.places_max)

      module _ {c : ℕ} (ec : c ≡ j * t + k) where
        alone : {E : List ℕ} {u : ℕ → ℕ} → Picture (layout n t shifts) E u sum tally → Single (layout n t shifts) E r (get_or tally r 0) c
        alone {E} p = subst (λ d. Single (layout n t shifts) E r (get_or tally r 0) d) (sym ec) (spot p)

        -- r and b are the two rows of c, in one order or the other
        sides : ((r ≡ top (layout n t shifts) c) × (b ≡ bottom (layout n t shifts) c)) ⊎ ((r ≡ bottom (layout n t shifts) c) × (b ≡ top (layout n t shifts) c))
        sides =
            let p = o.pictured.picture in
            let s = only_one p in
            let e : (only_one p).0 ≡ c = sym (ec ∙ beside_place o.good s.1.inside s.1.meet ((its_section p).1 ∙ sym ej) q) in
            subst (λ d. ((r ≡ top (layout n t shifts) d) × (b ≡ bottom (layout n t shifts) d)) ⊎ ((r ≡ bottom (layout n t shifts) d) × (b ≡ top (layout n t shifts) d)))
            e (beside_sides o.good s.1.inside s.1.meet ((its_section p).1 ∙ sym ej) q)

        other_meets : Meets (layout n t shifts) c b
        other_meets = ⊎_elim (λ h. inr h.1) (λ h. inl h.1) sides

        both : (s : ℕ) → Meets (layout n t shifts) c s → (s ≡ r) ⊎ (s ≡ b)
        both s m =
            ⊎_elim
            (λ h. ⊎_elim (λ k. inl (k ∙ sym h.0)) (λ k. inr (k ∙ sym h.1)) m)
            (λ h. ⊎_elim (λ k. inr (k ∙ sym h.1)) (λ k. inl (k ∙ sym h.0)) m)
            sides

        r≢b : r ≢ b
        r≢b e =
            let n = top≢bottom (layout n t shifts) (plan_valid o.good) c c in
            ⊎_elim (λ h. n (sym h.0 ∙ e ∙ h.1)) (λ h. n (sym h.1 ∙ sym e ∙ h.0)) sides

        row_b : b < 2 * t
        unfolding layout
        row_b = meets_row (layout n t shifts) (plan_valid o.good) c other_meets

        pub one_other : b < 2 * max_t
        one_other = omega (arith, row_b, o.good.t_max)

        pub one_rows : Rows sum tally r b (get_or tally r 0)
        unfolding layout
        one_rows =
            let p = o.pictured.picture in
            record {
              sum_row = one_long.0;
              tally_row = one_long.1;
              sum_other = omega (arith, row_b, p.sum_long);
              tally_other = omega (arith, row_b, p.counted.long);
              some_other = omega (arith, (alone p).weighs, tally_some (layout n t shifts) (plan_valid o.good) p.counted (alone p).member other_meets);
              apart = r≢b;
            }

        module _ {sum' tally' : List ℕ} {x rest : ℕ} (e : x ≡ get_or sum r 0) (m : Removes sum tally sum' tally' r b (get_or tally r 0) x rest) where
          two : (g : ℕ → ℕ) {old new : List ℕ} → length old ≡ 2 * (layout n t shifts).t → g (get_or old r 0) ≡ 0
              → new ≡ set (set old r 0) b (g (get_or (set old r 0) b 0)) → Touched (layout n t shifts) c g old new
          unfolding layout
          two g l z q =
              touched_two (layout n t shifts) c g r b r≢b (omega (arith, l, o.row)) (omega (arith, l, row_b))
              (alone o.pictured.picture).meet other_meets both z q

          tally_touched : Touched (layout n t shifts) c (λ y. y - get_or tally r 0) tally tally'
          tally_touched = two (λ y. y - get_or tally r 0) o.pictured.picture.counted.long (omega arith) m.tallies

          next_of : (E : List ℕ) (u : ℕ → ℕ) → Picture (layout n t shifts) E u sum tally → Next (layout n t shifts) E u sum' tally' c x
          unfolding layout
          next_of E u p =
              let L = layout n t shifts in
              let s = alone p in
              let v : x ≡ syndrome L u r = e ∙ p.sums r o.row in
              record {
                member = s.member;
                picture = picture_less L c x sum' tally' p s.member (⊕_lt 8 (p.byte c) (rw v (syndrome_byte L u r p.byte)))
                    (two (λ y. y ⊕ x) p.sum_long (rw e (⊕_self (get_or sum r 0))) m.sums)
                    (subst (λ w. Touched L c (λ y. y - w) tally tally') s.weighs tally_touched);
                forces = λ w z h. row_forces L u w s (z r o.row) h ∙ ap (λ y. u c ⊕ y) (sym v);
              }

          -- what is left on a row of c
          fewer : (q : ℕ) → Meets (layout n t shifts) c q → (0 < counts tally q) × (counts tally' q ≡ counts tally q - 1)
          unfolding layout
          fewer q h =
              let L = layout n t shifts in
              let p = o.pictured.picture in
              let s = alone p in
              let a = (next_of o.pictured.E o.pictured.u p).picture in
              let i : q < 2 * t = meets_row L (plan_valid o.good) c h in
              let old = tally_counts o.good p.counted i in
              let new = tally_counts o.good a.counted i in
              let less = length_on_row_without L o.pictured.E c q (rising_distinct p.counted.erased.rising) s.member in
              (omega (arith, old, on_row_some L s.member h), omega (arith, old, new, less, only_true 1 (meets_true L c h)))

          pub takes : Takes (layout n t shifts) sum tally sum' tally' r c x b
          unfolding layout counts
          takes =
              record {
                inside = row_b;
                lowers = record {
                  none = omega (arith, fewer r (alone o.pictured.picture).meet, o.left_one);
                  less = omega (arith, fewer b other_meets);
                  rest = λ q y z. ap (λ v. v / tally_unit) (tally_touched.off q (λ k. ⊎_elim y z (both q k)));
                };
                next = next_of;
              }
