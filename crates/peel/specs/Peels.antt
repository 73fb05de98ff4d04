-- What the turns of peeling promise up to `peel` (Peels), and the loop's invariant (Peeling).
-- L is always the layout of n, t and the shifts.
use Rattle.std.specs.Prelude.{◌≡◌, ◌≢◌, List, ℕ, ◌+◌, ◌-◌, ◌*◌, ◌≤◌, ◌<◌, length, get_or, set}
use Rattle.std.proofs.Common.{sym, ◌∙◌, ap, subst, arith, length-set}
use Rattle.math.specs.Members.{without}
use Rattle.math.specs.Xor.{◌⊕◌}
use Rattle.bounds.specs.Bounds.{max_t}
use Rattle.plan.specs.Layout.{Layout, layout}
use Rattle.plan.specs.GoodPlan.{GoodPlan}
use Rattle.code.specs.Checks.{update}
use Rattle.tables.specs.Picture.{counts, Picture, Pictured, Settles, Stuck}
use Rattle.tables.proofs.Bounds.{tally_counts}
use Rattle.tables.specs.Singles.{Lowers}
use Rattle.queue.specs.Queue.{Below, Queued, Waits, Enters, room, full, entered, passed, taken, emptied}
use Rattle.settling.specs.Settling.{settles_more}
use Rattle.settling.specs.Takes.{One, Takes}

-- from erasures E and block u on, k places are settled
pub record Reached (L : Layout) (E : List ℕ) (u : ℕ → ℕ) (sum tally place value : List ℕ) (k : ℕ) : Type 0 where
  pub F : List ℕ
  pub x : ℕ → ℕ
  pub picture : Picture L F x sum tally
  pub settles : Settles L E u F x place value k

-- between two turns
pub record Ready (n t : ℕ) (shifts sum tally queue place value : List ℕ) (head tail count : ℕ) : Type 0 where
  pub good : GoodPlan n t shifts
  pub pictured : Pictured (layout n t shifts) sum tally
  pub queued : Queued tally queue (Below (2 * t)) head tail
  pub counted : count ≤ head
  pub queue_long : length queue ≡ 2 * t
  pub place_long : length place ≡ 2 * t
  pub value_long : length value ≡ 2 * t

-- one turn
pub record Steps (n t : ℕ) (shifts sum tally queue place value : List ℕ) (head count : ℕ)
    (sum' tally' queue' place' value' : List ℕ) (tail' count' : ℕ) : Type 0 where
  pub ready : Ready n t shifts sum' tally' queue' place' value' (head + 1) tail' count'
  pub reached : (E : List ℕ) (u : ℕ → ℕ) → Reached (layout n t shifts) E u sum tally place value count
      → Reached (layout n t shifts) E u sum' tally' place' value' count'

module _ {n t : ℕ} {shifts sum tally queue place value : List ℕ} {head tail count : ℕ}
    (d : Ready n t shifts sum tally queue place value head tail count) (h : head < tail) where
  pub head_row : get_or queue head 0 < 2 * t
  head_row = d.queued.entries.looked head h

  pub head_long : head < length queue
  head_long = omega (arith, full (λ r l. l) d.queued, d.queue_long)

  pub count_lt : count < 2 * t
  count_lt = omega (arith, d.counted, full (λ r l. l) d.queued)

  pub count_long : (count < length place) × (count < length value)
  count_long = (omega (arith, count_lt, d.place_long), omega (arith, count_lt, d.value_long))

-- row r is at the head
module _ {n t : ℕ} {shifts sum tally queue place value : List ℕ} {head tail count r : ℕ}
    (d : Ready n t shifts sum tally queue place value head tail count) (h : head < tail) (at_head : r ≡ get_or queue head 0) where
  pub head_tally : r < length tally
  unfolding layout
  head_tally = omega (arith, at_head, head_row d h, d.pictured.picture.counted.long)

  pub steps_over : counts tally r ≢ 1
      → Steps n t shifts sum tally queue place value head count sum tally queue place value tail count
  steps_over e = record {
    ready = record {
      good = d.good;
      pictured = d.pictured;
      queued = passed d.queued h (λ o. e (rw at_head o));
      counted = omega (arith, d.counted);
      queue_long = d.queue_long;
      place_long = d.place_long;
      value_long = d.value_long;
    };
    reached = λ E u q. q;
  }

  pub head_one : counts tally r ≡ 1 → One n t shifts sum tally r
  head_one e = record { good = d.good; pictured = d.pictured; row = rw at_head (head_row d h); left_one = e }

  module _ {sum' tally' : List ℕ} {c x b : ℕ} (k : Takes (layout n t shifts) sum tally sum' tally' r c x b) where
    step_waits : Waits tally' queue (Below (2 * t)) (head + 1) tail b
    unfolding layout
    step_waits = taken d.queued h k.inside (subst (λ q. Lowers tally tally' q b) at_head k.lowers)

    step_room : counts tally' b ≡ 1 → tail < length queue
    step_room e = omega (arith, room (λ r l. l) step_waits e, d.queue_long)

    pub rest_room : {rest : ℕ} → rest ≡ counts tally' b → rest ≡ 1 → tail < length queue
    rest_room e one = step_room (sym e ∙ one)

    pub steps : {queue' place' value' : List ℕ} {rest tail' : ℕ} → rest ≡ counts tally' b → Enters queue tail b rest queue' tail' → length queue' ≡ length queue
        → place' ≡ set place count c → value' ≡ set value count x
        → Steps n t shifts sum tally queue place value head count sum' tally' queue' place' value' tail' (count + 1)
    steps er e lq ep ev = record {
      ready = record {
        good = d.good;
        pictured = record {
          E = without c d.pictured.E;
          u = update d.pictured.u c (d.pictured.u c ⊕ x);
          picture = (k.next d.pictured.E d.pictured.u d.pictured.picture).picture;
        };
        queued = entered step_waits step_room er e;
        counted = omega (arith, d.counted);
        queue_long = lq ∙ d.queue_long;
        place_long = ap length ep ∙ length-set place count c ∙ d.place_long;
        value_long = ap length ev ∙ length-set value count x ∙ d.value_long;
      };
      reached = λ E u q.
          let y = k.next q.F q.x q.picture in
          record {
            F = without c q.F;
            x = update q.x c (q.x c ⊕ x);
            picture = y.picture;
            settles = settles_more (layout n t shifts) x q.settles (count_long d h).0 (count_long d h).1 ep ev y.member y.forces;
          };
    }

-- the loop's invariant: the tables at the start are sum₀ and tally₀
pub record Peeling (n t : ℕ) (shifts sum₀ tally₀ sum tally queue place value : List ℕ) (head tail count : ℕ) : Type 0 where
  pub ready : Ready n t shifts sum tally queue place value head tail count
  pub reached : (E : List ℕ) (u : ℕ → ℕ) → Picture (layout n t shifts) E u sum₀ tally₀
      → Reached (layout n t shifts) E u sum tally place value count

-- from erasures E and block u on, all is settled that peeling can settle
pub record Peeled (L : Layout) (E : List ℕ) (u : ℕ → ℕ) (sum tally place value : List ℕ) (k : ℕ) : Type 0 where
  pub F : List ℕ
  pub x : ℕ → ℕ
  pub picture : Picture L F x sum tally
  pub settles : Settles L E u F x place value k
  pub stuck : Stuck L F

-- what `peel` ensures: whatever block the tables pictured at the start, the r places and values are the ones settled
pub record Peels (L : Layout) (sum tally sum' tally' place' value' : List ℕ) (r : ℕ) : Type 0 where
  pub few : r ≤ 2 * L.t
  pub place_long : length place' ≡ 2 * L.t
  pub value_long : length value' ≡ 2 * L.t
  pub peeled : (E : List ℕ) (u : ℕ → ℕ) → Picture L E u sum tally → Peeled L E u sum' tally' place' value' r

-- what `peel` requires
pub record Peelable (n t : ℕ) (shifts sum tally queue place value : List ℕ) : Type 0 where
  pub good : GoodPlan n t shifts
  pub pictured : Pictured (layout n t shifts) sum tally
  pub queue_long : length queue ≡ 2 * t
  pub place_long : length place ≡ 2 * t
  pub value_long : length value ≡ 2 * t

pub peelable_seed : {n t : ℕ} {shifts sum tally queue place value : List ℕ} → Peelable n t shifts sum tally queue place value
    → (t ≤ max_t) × (length tally ≡ 2 * t) × (length queue ≡ 2 * t)
unfolding layout
peelable_seed d = (d.good.t_max, d.pictured.picture.counted.long, d.queue_long)

pub peelable_ready : {n t : ℕ} {shifts sum tally queue place value queue' place' : List ℕ} {tail : ℕ} → Peelable n t shifts sum tally queue place value
    → Queued tally queue' (Below (2 * t)) 0 tail → length queue' ≡ length queue → length place' ≡ length place
    → Ready n t shifts sum tally queue' place' value 0 tail 0
peelable_ready d q l k = record {
  good = d.good;
  pictured = d.pictured;
  queued = q;
  counted = omega arith;
  queue_long = l ∙ d.queue_long;
  place_long = k ∙ d.place_long;
  value_long = d.value_long;
}

-- turns make the lists neither longer nor shorter
pub ready_long : {n t : ℕ} {shifts sum₀ tally₀ queue₀ place₀ value₀ sum tally queue place value : List ℕ} {head₀ tail₀ count₀ head tail count : ℕ}
    → Ready n t shifts sum₀ tally₀ queue₀ place₀ value₀ head₀ tail₀ count₀ → Ready n t shifts sum tally queue place value head tail count
    → (length sum ≡ length sum₀) × (length tally ≡ length tally₀)
    × (length queue ≡ length queue₀) × (length place ≡ length place₀) × (length value ≡ length value₀)
ready_long d p =
    let y = d.pictured.picture in
    let z = p.pictured.picture in (
      z.sum_long ∙ sym y.sum_long,
      z.counted.long ∙ sym y.counted.long,
      p.queue_long ∙ sym d.queue_long,
      p.place_long ∙ sym d.place_long,
      p.value_long ∙ sym d.value_long,
    )

pub peeling_less : {n t : ℕ} {shifts sum₀ tally₀ sum tally queue place value : List ℕ} {head tail count : ℕ}
    → Peeling n t shifts sum₀ tally₀ sum tally queue place value head tail count → head < tail
    → (head < 2 * max_t) × (2 * t - (head + 1) < 2 * t - head)
peeling_less p h = (omega (arith, full (λ r l. l) p.ready.queued, p.ready.good.t_max), omega (arith, full (λ r l. l) p.ready.queued))

pub peeling_end : {n t : ℕ} {shifts sum₀ tally₀ sum tally queue place value : List ℕ} {head tail count : ℕ}
    → Peeling n t shifts sum₀ tally₀ sum tally queue place value head tail count → tail ≤ head
    → Peels (layout n t shifts) sum₀ tally₀ sum tally place value count
unfolding layout Stuck
peeling_end p h = record {
  few = omega (arith, p.ready.counted, p.ready.queued.order, full (λ r l. l) p.ready.queued);
  place_long = p.ready.place_long;
  value_long = p.ready.value_long;
  peeled = λ E u q.
      let y = p.reached E u q in
      record {
        F = y.F;
        x = y.x;
        picture = y.picture;
        settles = y.settles;
        stuck = λ r l e. emptied p.ready.queued h r l (tally_counts p.ready.good y.picture.counted l ∙ e);
      };
}
