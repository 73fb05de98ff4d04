-- One row of a round (Turned): where the round stands between two of its rows (Within), and that it stands so after the next.
-- L is always the layout of n, t and the shifts.
use Rattle.std.specs.Prelude.{◌≡◌, ◌≢◌, ◌⊎◌, true, List, ℕ, ◌+◌, ◌-◌, ◌*◌, ◌≤◌, ◌<◌}
use Rattle.std.proofs.Common.{sym, ◌∙◌, subst, arith}
use Rattle.std.proofs.Math.Path.{ap}
use Rattle.std.proofs.Math.Logic.{inl, inr, ⊎_elim, by_cases}
use Rattle.std.proofs.Math.Decide.{ℕ_discrete}
use Rattle.std.proofs.Math.ListN.{length, get_or}
use Rattle.math.specs.Members.{◌∈◌, without}
use Rattle.math.specs.MembersLaws.{by_test, ∈_without, without_∈, length_without, rising_distinct}
use Rattle.math.specs.SumsLaws.{only_false}
use Rattle.plan.specs.Layout.{Layout, layout}
use Rattle.plan.specs.GoodPlan.{GoodPlan}
use Rattle.code.specs.Places.{Meets, meets}
use Rattle.code.specs.Rounds.{on_row, alone}
use Rattle.code.proofs.Laws.Basics.{true_meets}
use Rattle.code.proofs.Laws.Leaves.{∈_length, on_row_some}
use Rattle.code.proofs.Laws.RoundsLaws.{alone_on}
use Rattle.tables.specs.Picture.{counts, Picture}
use Rattle.tables.specs.PictureLaws.{length_on_row_without}
use Rattle.tables.proofs.Bounds.{tally_counts}
use Rattle.queue.specs.Queue.{Standing, Enters, enters_same, enters_longer}
use Rattle.queue.specs.RowQueue.{RowQueue, head_row, row_passed, row_room, row_taken}
use Rattle.settling.specs.Takes.{One, Takes}

-- the tables picture erasures E, of which there are `left`; what symbols they picture does not matter
pub record Left (L : Layout) (E sum tally : List ℕ) (left : ℕ) : Type 0 where
  pub u : ℕ → ℕ
  pub picture : Picture L E u sum tally
  pub counted : left ≡ length E

-- between two rows
pub record Ready (n t : ℕ) (shifts sum tally queue : List ℕ) (head tail left : ℕ) : Type 0 where
  pub good : GoodPlan n t shifts
  pub E : List ℕ
  pub rest : Left (layout n t shifts) E sum tally left
  pub rows : RowQueue tally queue (2 * t) head tail

-- inside a round that began with erasures E: its rows at i .. end - 1 of the queue are to come, and F are left
pub record Within (L : Layout) (E sum tally queue : List ℕ) (i end left : ℕ) : Type 0 where
  pub F : List ℕ
  pub rest : Left L F sum tally left
  pub fewer : (c : ℕ) → c ∈ F → c ∈ E
  pub settled : (c : ℕ) → c ∈ E → ¬ (c ∈ F) → alone L E c ≡ true
  pub low : (j : ℕ) → i ≤ j → j < end → length (on_row L E (get_or queue j 0)) ≤ 1
  pub due : (r : ℕ) → r < 2 * L.t → length (on_row L E r) ≡ 1 → Standing queue i end r ⊎ (length (on_row L F r) ≡ 0)

-- what one row does, to whichever round it belongs
pub record Turned (n t : ℕ) (shifts sum tally queue : List ℕ) (i tail left : ℕ) (sum' tally' queue' : List ℕ) (tail' left' : ℕ) : Type 0 where
  pub ready : Ready n t shifts sum' tally' queue' (i + 1) tail' left'
  pub longer : tail ≤ tail'
  pub within : (E : List ℕ) (end : ℕ) → i < end → end ≤ tail → Within (layout n t shifts) E sum tally queue i end left
      → Within (layout n t shifts) E sum' tally' queue' (i + 1) end left'

-- row r is at the head
module _ {n t : ℕ} {shifts sum tally queue : List ℕ} {i tail left r : ℕ} (d : Ready n t shifts sum tally queue i tail left) (h : i < tail)
    (at_head : r ≡ get_or queue i 0) where
  row : r < 2 * t
  row = head_row d.rows h at_head

  pub head_tally : r < length tally
  unfolding layout
  head_tally = omega (arith, row, d.rest.picture.counted.long)

  -- the number left on a row, for whichever erasures the tables picture
  left_on : {F : List ℕ} {u : ℕ → ℕ} {s : ℕ} → Picture (layout n t shifts) F u sum tally → s < 2 * t → counts tally s ≡ length (on_row (layout n t shifts) F s)
  unfolding layout
  left_on p l = tally_counts d.good p.counted l

  -- the row has none left: it is passed over
  pub turned_over : counts tally r ≢ 1 → Turned n t shifts sum tally queue i tail left sum tally queue tail left
  turned_over e = record {
    ready = record { good = d.good; E = d.E; rest = d.rest; rows = row_passed d.rows h at_head e };
    longer = omega arith;
    within = λ E end a b w. record {
      F = w.F;
      rest = w.rest;
      fewer = w.fewer;
      settled = w.settled;
      low = λ j x y. w.low j (omega arith) y;
      due = λ s l o. ⊎_elim
          (λ k. by_cases (ℕ_discrete k.0 i)
          (λ m. inr (none w.rest.picture (at_head ∙ ap (λ j. get_or queue j 0) (sym m) ∙ k.3)))
          (λ m. inl (k.0, omega (arith, k.1), k.2, k.3)))
          inr
          (w.due s l o);
    };
  }
    where
      none : {F : List ℕ} {u : ℕ → ℕ} {s : ℕ} → Picture (layout n t shifts) F u sum tally → r ≡ s → length (on_row (layout n t shifts) F s) ≡ 0
      none {F} p m =
          let low : counts tally r ≤ 1 = rw at_head (d.rows.queued.entries.low i h) in
          subst (λ s. length (on_row (layout n t shifts) F s) ≡ 0) m (omega (arith, left_on p row))

  pub head_one : counts tally r ≡ 1 → One n t shifts sum tally r
  head_one e = record {
    good = d.good;
    pictured = record { E = d.E; u = d.rest.u; picture = d.rest.picture };
    row = row;
    left_one = e;
  }

  -- its one place c is settled; b is the place's other row
  module _ {sum' tally' : List ℕ} {c x b : ℕ} (k : Takes (layout n t shifts) sum tally sum' tally' r c x b) where
    pub turn_room : {rest : ℕ} → rest ≡ counts tally' b → rest ≡ 1 → tail < length queue
    unfolding layout
    turn_room = row_room d.rows h at_head k.inside k.lowers

    -- the erasures without c, one less
    next : {F : List ℕ} → Left (layout n t shifts) F sum tally left → (c ∈ F) × Left (layout n t shifts) (without c F) sum' tally' (left - 1)
    next {F} p =
        let y = k.next F p.u p.picture in (
          y.member,
          record {
            u = _;
            picture = y.picture;
            counted = omega (arith, p.counted, length_without (rising_distinct p.picture.counted.erased.rising) y.member);
          },
        )

    pub turn_some : 0 < left
    turn_some = omega (arith, d.rest.counted, ∈_length (next d.rest).0)

    module _ (one : counts tally r ≡ 1) where
      -- after it the row has none
      row_clears : {F : List ℕ} → Left (layout n t shifts) F sum tally left → length (on_row (layout n t shifts) (without c F) r) ≡ 0
      unfolding layout
      row_clears p = omega (arith, tally_counts d.good (next p).1.picture.counted row, k.lowers.none)

      -- so the place was on it
      its_row : {F : List ℕ} → Left (layout n t shifts) F sum tally left → Meets (layout n t shifts) c r
      its_row {F} p =
          let L = layout n t shifts in
          by_test (meets L c r) (true_meets L c r)
          (λ f. absurd (omega (
            arith,
            one,
            left_on p.picture row,
            row_clears p,
            length_on_row_without L F c r (rising_distinct p.picture.counted.erased.rising) (next p).0,
            only_false 1 f,
          )))

      pub turned : {queue' : List ℕ} {rest tail' : ℕ} → rest ≡ counts tally' b → Enters queue tail b rest queue' tail' → length queue' ≡ length queue
          → Turned n t shifts sum tally queue i tail left sum' tally' queue' tail' (left - 1)
      unfolding layout
      turned {queue'} e s long = record {
        ready = record {
          good = d.good;
          E = without c d.E;
          rest = (next d.rest).1;
          rows = row_taken d.rows h at_head k.inside k.lowers e s long;
        };
        longer = enters_longer s;
        within = λ E end a l w.
            let L = layout n t shifts in
            let F = w.F in
            let up = rising_distinct w.rest.picture.counted.erased.rising in
            let m = (next w.rest).0 in
            let on = its_row w.rest in
            let early : (j : ℕ) → j < end → get_or queue' j 0 ≡ get_or queue j 0 = λ j y. enters_same s j (omega arith) in
            let low : length (on_row L E r) ≤ 1 = rw at_head (w.low i (omega arith) a) in
            let sole : length (on_row L E r) ≡ 1 = omega (arith, on_row_some L (w.fewer c m) on) in
            record {
              F = without c F;
              rest = (next w.rest).1;
              fewer = λ z o. w.fewer z (without_∈ c F o).0;
              settled = λ z o q.
                  by_cases (ℕ_discrete z c)
                  (λ y. rw y (alone_on L E c r on sole))
                  (λ y. w.settled z o (λ v. q (∈_without v y)));
              low = λ j x y. rw (early j y) (w.low j (omega arith) y);
              due = λ q y o. ⊎_elim
                  (λ v. by_cases (ℕ_discrete v.0 i)
                  (λ z. inr (subst (λ q. length (on_row L (without c F) q) ≡ 0) (at_head ∙ ap (λ j. get_or queue j 0) (sym z) ∙ v.3) (row_clears w.rest)))
                  (λ z. inl (v.0, omega (arith, v.1), v.2, early v.0 v.2 ∙ v.3)))
                  (λ z. inr (omega (arith, length_on_row_without L F c q up m)))
                  (w.due q y o);
            };
      }
