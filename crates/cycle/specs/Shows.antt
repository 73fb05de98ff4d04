-- The cycle of a closing place c: of the erasures from c on, peeling leaves those of rows with two, and among them the cycle.
-- Main results: begun, stripped (the tallies left walk the cycle), showing, and highest (no cycle has a higher lowest place).
use Rattle.std.specs.Prelude.{◌≡◌, refl, ◌⊎◌, List, ℕ, ◌+◌, ◌-◌, ◌*◌, ◌/◌, ◌≤◌, ◌<◌, replicate}
use Rattle.std.proofs.Math.Path.{sym, ap}
use Rattle.std.proofs.Common.{◌∙◌, arith}
use Rattle.std.proofs.Math.Logic.{inl, inr, by_cases}
use mathlib.Core.List.Memᴰ
use Rattle.std.proofs.Math.Decide.{dec_lt}
use Rattle.std.proofs.Math.ListN.{length, get_or, length-replicate, get_or-replicate}
use Rattle.math.specs.Members.{◌∈◌}
use Rattle.math.specs.MembersLaws.{without_∈, rising_without}
use Rattle.math.specs.Pigeonhole.{get_or_∈, ∈_get_or}
use Rattle.plan.specs.Layout.{Layout, Valid, layout, top, bottom}
use Rattle.code.specs.Codewords.{at}
use Rattle.code.specs.Marks.{NoSpare, erasures}
use Rattle.code.specs.Cycles.{Cycle, Lowest}
use Rattle.code.specs.Components.{Connected}
use Rattle.code.specs.Rounds.{on_row}
use Rattle.code.specs.Laws.Forest.{Erased, Forest, above}
use Rattle.code.proofs.Laws.Basics.{meets_row, syndrome_zero}
use Rattle.code.proofs.Laws.Paths.{∈_above, erased_above, path}
use Rattle.code.proofs.Laws.CycleLaws.{cycle_length, forest_no_cycle}
use Rattle.code.proofs.Laws.MarksLaws.{erasures_erased}
use Rattle.code.proofs.Laws.Leaves.{forest_sub}
use Rattle.tables.specs.Picture.{weight, Counted, Picture, Stuck}
use Rattle.tables.specs.Spots.{Stands}
use Rattle.tables.specs.Sizes.{good_∈}
use Rattle.tables.specs.Counting.{from_place}
use Rattle.tables.proofs.Counting.{in_from, from_in}
use Rattle.tables.specs.StuckLaws.{twos, met_two, cycle_survives, cycle_into, top_next, bottom_next, last_next}
use Rattle.peel.specs.Peels.{Peelable, Peels, Peeled}
use Rattle.math.specs.Padded.{padded}
use Rattle.plan.specs.GoodPlan.{GoodPlan, plan_valid}
use Rattle.cycle.specs.Walks.{Walks, Walkable, Walked}

-- c is the highest place that closes a cycle
pub record Closing (n t : ℕ) (shifts marks : List ℕ) (c : ℕ) : Type 0 where
  pub good : GoodPlan n t shifts
  pub marks_long : length marks ≡ (n * t + 7) / 8
  pub no_spare : NoSpare (layout n t shifts) marks
  pub member : c ∈ erasures (layout n t shifts) marks
  pub forest : Forest (layout n t shifts) (above c (erasures (layout n t shifts) marks))
  pub connected : Connected (layout n t shifts) (above c (erasures (layout n t shifts) marks)) (top (layout n t shifts) c) (bottom (layout n t shifts) c)

-- the work tables have an entry for each row
pub record Room (t : ℕ) (sum tally place value : List ℕ) : Type 0 where
  pub sum_long : length sum ≡ 2 * t
  pub tally_long : length tally ≡ 2 * t
  pub place_long : length place ≡ 2 * t
  pub value_long : length value ≡ 2 * t

-- the tables picture a block of zeros with the erasures from c on
pub record Begun (n t : ℕ) (shifts marks : List ℕ) (c : ℕ) (sum tally : List ℕ) : Type 0 where
  pub u : ℕ → ℕ
  pub zeros : (d : ℕ) → u d ≡ 0
  pub picture : Picture (layout n t shifts) (from_place c (erasures (layout n t shifts) marks)) u sum tally

-- the tallies of the rows walk the cycle of c
pub record Stripped (n t : ℕ) (shifts marks : List ℕ) (c : ℕ) (tally : List ℕ) : Type 0 where
  pub long : length tally ≡ 2 * t
  pub cycle : List ℕ
  pub is_cycle : Cycle (layout n t shifts) (erasures (layout n t shifts) marks) cycle
  pub first : at cycle 0 ≡ c
  pub walks : Walks n t shifts tally c cycle

-- what `show` promises
pub record Showing (n t : ℕ) (shifts marks : List ℕ) (c : ℕ) (w : List ℕ) (r : ℕ) : Type 0 where
  pub cycle : List ℕ
  pub is_cycle : Cycle (layout n t shifts) (erasures (layout n t shifts) marks) cycle
  pub first : at cycle 0 ≡ c
  pub counted : r ≡ length cycle
  pub written : w ≡ padded (2 * t) cycle
  pub highest : (k : List ℕ) → Cycle (layout n t shifts) (erasures (layout n t shifts) marks) k → at k 0 ≤ at cycle 0

-- a place of a cycle is one of its erasures
cycle_member : {L : Layout} {E l : List ℕ} → Cycle L E l → (c : ℕ) → c ∈ l → c ∈ E
cycle_member cy c m = let k = ∈_get_or m in Memᴰ.cast (sym k.2) (cy.inside k.0 k.1)

-- and not below its first
cycle_above : {L : Layout} {E l : List ℕ} → Cycle L E l → (c : ℕ) → c ∈ l → at l 0 ≤ c
cycle_above cy c m = let k = ∈_get_or m in omega (arith, cy.lowest k.0 k.1, k.2)

-- the first place of a cycle
cycle_first : {L : Layout} {E l : List ℕ} → Cycle L E l → at l 0 ∈ l
cycle_first {l = l} cy = get_or_∈ l (omega (arith, cy.even, cy.least))

module _ (L : Layout) (ok : Valid L) {E : List ℕ} {c : ℕ} (er : Erased L E) (fo : Forest L (above c E)) where
  -- a cycle with a higher lowest place would lie in the forest
  pub highest : (k : List ℕ) → Cycle L E k → at k 0 ≤ c
  highest k cy = by_cases (dec_lt c (at k 0))
      (λ h. absurd (forest_no_cycle L ok (above c E) (erased_above c er) fo k
      (cycle_into cy (λ d m. ∈_above (cycle_member cy d m) (omega (arith, cycle_above cy d m))))))
      (λ h. omega arith)

  module _ {F : List ℕ} {x : ℕ → ℕ} {sum tally : List ℕ} (pic : Picture L F x sum tally) (sub : (d : ℕ) → d ∈ F → d ∈ from_place c E) (st : Stuck L F)
      {l : List ℕ} (cy : Cycle L F l) (e : at l 0 ≡ c) where
    -- each row that a place of F meets has two
    two_on : (d : ℕ) {r : ℕ} → d ∈ F → (r ≡ top L d) ⊎ (r ≡ bottom L d) → length (on_row L F r) ≡ 2
    two_on d {r} m on = met_two L m on
        (twos L ok pic.counted.erased.rising (Memᴰ.cast (sym e) (cycle_member cy (at l 0) (cycle_first cy)))
        (forest_sub L ok (erased_above c er).rising (rising_without c pic.counted.erased.rising)
        (λ d i. let k = without_∈ c F i in let j = from_in c E (sub d k.0) in ∈_above j.0 (omega (arith, k.1, j.1))) fo)
        st r (meets_row L ok d on))

    row_top : (i : ℕ) → i < cy.half → get_or tally (top L (at l (2 * i))) 0 ≡ weight L.t (at l (2 * i)) + weight L.t (at l (2 * i + 1))
    row_top i h =
        pic.counted.tallies (top L (at l (2 * i))) (meets_row L ok (at l (2 * i)) (inl refl))
        ∙ top_next pic.counted.erased.rising cy i h (two_on (at l (2 * i)) (cy.inside (2 * i) (omega (arith, cy.even))) (inl refl)) (weight L.t)

    row_bottom : (i : ℕ) → i + 1 < cy.half → get_or tally (bottom L (at l (2 * i + 1))) 0 ≡ weight L.t (at l (2 * i + 1)) + weight L.t (at l (2 * i + 2))
    row_bottom i h =
        pic.counted.tallies (bottom L (at l (2 * i + 1))) (meets_row L ok (at l (2 * i + 1)) (inr refl))
        ∙ bottom_next pic.counted.erased.rising cy i h (two_on (at l (2 * i + 1)) (cy.inside (2 * i + 1) (omega (arith, cy.even))) (inr refl)) (weight L.t)

    row_last : get_or tally (bottom L (at l (length l - 1))) 0 ≡ weight L.t (at l (length l - 1)) + weight L.t (at l 0)
    row_last =
        pic.counted.tallies (bottom L (at l (length l - 1))) (meets_row L ok (at l (length l - 1)) (inr refl))
        ∙ last_next pic.counted.erased.rising cy (two_on (at l (length l - 1)) (cy.inside (length l - 1) (omega (arith, cy.even, cy.least))) (inr refl)) (weight L.t)

module _ {n t : ℕ} {shifts marks : List ℕ} {c : ℕ} (p : Closing n t shifts marks c) where
  pub begun : {sum tally : List ℕ} → sum ≡ replicate (2 * t) 0
      → Counted (layout n t shifts) (from_place c (erasures (layout n t shifts) marks)) tally → Begun n t shifts marks c sum tally
  unfolding layout
  begun e counted =
      record {
        u = λ d. 0;
        zeros = λ d. refl;
        picture = record {
          sum_long = ap length e ∙ length-replicate (2 * t) 0;
          byte = λ d. omega arith;
          sums = λ r h. ap (λ l. get_or l r 0) e ∙ get_or-replicate (2 * t) r 0 0 h ∙ sym (syndrome_zero (layout n t shifts) r);
          counted = counted;
        };
      }

  pub stripped : {sum tally sum' tally' place value : List ℕ} {r : ℕ} → Begun n t shifts marks c sum tally
      → Peels (layout n t shifts) sum tally sum' tally' place value r → Stripped n t shifts marks c tally'
  unfolding layout
  stripped {sum' = sum'} {tally' = tally'} {place = place} {value = value} {r = r} b peels =
      record {
        long = q.picture.counted.long;
        cycle = l;
        is_cycle = w.is_cycle;
        first = w.first;
        walks = record {
          half = cy.half;
          even = cy.even;
          least = cy.least;
          short = cycle_length L ok F l cy;
          once = λ i h e. cy.distinct i 0 h (omega (arith, cy.even, cy.least)) e;
          start = sym w.first;
          tops = λ i h. record {
            one_inside = inside (2 * i) (omega (arith, cy.even));
            other_inside = inside (2 * i + 1) (omega (arith, cy.even));
            other_meets = inl (cy.share_top i h);
            tallied = row_top L ok er p.forest q.picture q.settles.fewer q.stuck cy w.first i h;
          };
          bottoms = λ i h. record {
            one_inside = inside (2 * i + 1) (omega (arith, cy.even));
            other_inside = inside (2 * i + 2) (omega (arith, cy.even));
            other_meets = inr (cy.share_bottom i h);
            tallied = row_bottom L ok er p.forest q.picture q.settles.fewer q.stuck cy w.first i h;
          };
          close = record {
            one_inside = inside (length l - 1) (omega (arith, cy.even, cy.least));
            other_inside = inside 0 (omega (arith, cy.even, cy.least));
            other_meets = inr cy.close;
            tallied = row_last L ok er p.forest q.picture q.settles.fewer q.stuck cy w.first;
          };
        };
      }
    where
      L : Layout
      L = layout n t shifts

      E : List ℕ
      E = erasures L marks

      ok : Valid L
      ok = plan_valid p.good

      er : Erased L E
      er = erasures_erased L marks

      w : Lowest L E c
      w = (path L ok E c er p.member).0 p.connected

      l : List ℕ
      l = w.cycle

      q : Peeled L (from_place c E) b.u sum' tally' place value r
      q = peels.peeled (from_place c E) b.u b.picture

      F : List ℕ
      F = q.F

      inner : Cycle L (from_place c E) l
      inner = cycle_into w.is_cycle (λ d m. in_from (cycle_member w.is_cycle d m) (omega (arith, cycle_above w.is_cycle d m, w.first)))

      cy : Cycle L F l
      cy = cycle_into inner (cycle_survives L ok q.settles b.zeros b.picture.counted.erased inner)

      inside : (i : ℕ) → i < length l → at l i < n * t
      inside i h = good_∈ p.good (q.picture.counted.erased.inside (at l i) (cy.inside i h))

  pub closing_inside : c < n * t
  closing_inside = good_∈ p.good ((erasures_erased (layout n t shifts) marks).inside c p.member)

  pub peelable : {sum tally queue place value : List ℕ} → Begun n t shifts marks c sum tally
      → length queue ≡ 2 * t → length place ≡ 2 * t → length value ≡ 2 * t → Peelable n t shifts sum tally queue place value
  peelable b lq lp lv =
      record { good = p.good; pictured = record { E = _; u = _; picture = b.picture }; queue_long = lq; place_long = lp; value_long = lv }

  pub walkable : {j k : ℕ} {tally : List ℕ} → Stands t c j k → Stripped n t shifts marks c tally → Walkable n t shifts tally c j k
  walkable st s = record {
    good = p.good;
    long = s.long;
    stands = st;
    cycle = s.cycle;
    walks = s.walks;
  }

  pub showing : {tally w : List ℕ} {r : ℕ} → Stripped n t shifts marks c tally → Walked n t shifts tally c w r → Showing n t shifts marks c w r
  showing s v =
      record {
        cycle = s.cycle;
        is_cycle = s.is_cycle;
        first = s.first;
        counted = v.counted s.cycle s.walks;
        written = v.written s.cycle s.walks;
        highest = λ m cy. rw s.first (highest (layout n t shifts) (plan_valid p.good) (erasures_erased (layout n t shifts) marks) p.forest m cy);
      }
