-- The rounds one after the other, until no erasure is left (Counting): their number is that of the definition.
-- L is always the layout of n, t and the shifts.
use Rattle.std.specs.Prelude.{◌≡◌, List, ℕ, suc, ◌+◌, ◌*◌, ◌≤◌, ◌<◌, take, replicate, Ok}
use Rattle.std.proofs.Common.{sym, ◌∙◌, ap, add-one, arith}
use Rattle.std.proofs.Math.Path.{subst}
use Rattle.std.proofs.Math.Logic.{by_cases}
use Rattle.std.proofs.Math.Decide.{ℕ_discrete, dec_lt}
use Rattle.std.proofs.Math.ListN.{length}
use Rattle.std.proofs.lemmas.List.{get_or-replicate}
use Rattle.math.specs.Members.{Rising}
use Rattle.bounds.specs.Bounds.{max_t}
use Rattle.plan.specs.Layout.{layout}
use Rattle.plan.specs.Plans.{layout_of, plan_check}
use Rattle.plan.proofs.PlanLaws.{good_bounds}
use Rattle.plan.specs.declared.Plan.{Plan}
use Rattle.plan.specs.GoodPlan.{GoodPlan, plan_valid}
use Rattle.code.specs.Marks.{mark_bytes, NoSpare, erasures}
use Rattle.code.specs.Rounds.{after, Rounds}
use Rattle.code.specs.Laws.Forest.{Forest}
use Rattle.code.proofs.Laws.Basics.{syndrome_zero}
use Rattle.code.proofs.Laws.RoundsLaws.{round_fewer, no_places, forest_after, after_costs}
use Rattle.tables.specs.Picture.{Counted}
use Rattle.tables.specs.Counting.{from_place}
use Rattle.tables.proofs.Counting.{from_zero}
use Rattle.tables.specs.Scan.{Lent}
use Rattle.tables.specs.Zeros.{Zeros, zeros, zeros_long, zeros_room, zeros_part, front_long}
use Rattle.queue.specs.Queue.{Below, Queued}
use Rattle.rounding.specs.OneRow.{Left, Ready}
use Rattle.rounding.specs.OneRound.{Rounded}

-- after k rounds of the erasures E, each of which began with some left
pub record Counting (n t : ℕ) (shifts E sum tally queue : List ℕ) (head tail left k : ℕ) : Type 0 where
  pub ready : Ready n t shifts sum tally queue head tail left
  pub reached : Left (layout n t shifts) (after (layout n t shifts) k E) sum tally left
  pub some : (j : ℕ) → j < k → 0 < length (after (layout n t shifts) j E)

-- the marked places, tallied beside sums that are 0: the zero block is pictured
pub zero_block : (n t : ℕ) (shifts marks : List ℕ) {sum tally : List ℕ} {count : ℕ} → sum ≡ replicate (2 * t) 0
    → Counted (layout n t shifts) (from_place 0 (erasures (layout n t shifts) marks)) tally → count ≡ length (erasures (layout n t shifts) marks)
    → Left (layout n t shifts) (erasures (layout n t shifts) marks) sum tally count
unfolding layout
zero_block n t shifts marks {sum} {tally} z k e = record {
  u = λ c. 0;
  picture = record {
    sum_long = zeros_long t sum z;
    byte = λ c. omega arith;
    sums = λ r h. rw z (get_or-replicate (2 * t) r 0 0 h) ∙ sym (syndrome_zero (layout n t shifts) r);
    counted = subst (λ E. Counted (layout n t shifts) E tally) (from_zero (erasures (layout n t shifts) marks)) k;
  };
  counted = e;
}

module _ {n t : ℕ} {shifts E sum tally queue : List ℕ} {head tail left : ℕ} where
  pub counting_start : GoodPlan n t shifts → Left (layout n t shifts) E sum tally left → Queued tally queue (Below (2 * t)) head tail → length queue ≡ 2 * t
      → Counting n t shifts E sum tally queue head tail left 0
  unfolding after
  counting_start good p q long = record {
    ready = record { good = good; E = E; rest = p; rows = record { queued = q; long = long } };
    reached = p;
    some = λ j h. absurd (omega arith);
  }

  module _ {k : ℕ} (p : Counting n t shifts E sum tally queue head tail left k) where
    pub counting_step : Rising E → Forest (layout n t shifts) E → 0 < left → {sum' tally' queue' : List ℕ} {tail' left' : ℕ}
        → Rounded n t shifts sum tally tail left sum' tally' queue' tail' left'
        → Counting n t shifts E sum' tally' queue' tail tail' left' (k + 1) × (left' < left)
    unfolding after
    counting_step up f h {sum'} {tally'} {tail' = tail'} {left' = left'} s =
        let L = layout n t shifts in
        let q : Left L (after L (suc k) E) sum' tally' left' = s.rounded (after L k E) p.reached in
        let z : 0 < length (after L k E) = omega (arith, p.reached.counted) in
        let less : left' < left = omega (arith, q.counted, p.reached.counted, round_fewer L (plan_valid p.ready.good) (forest_after L (plan_valid p.ready.good) up f k) z) in (
          record {
            ready = s.ready;
            reached = subst (λ j. Left L (after L j E) sum' tally' left') (sym (add-one k)) q;
            some = λ j l. by_cases (ℕ_discrete j k) (λ e. rw e z) (λ n. p.some j (omega arith));
          },
          less,
        )

    -- with marks left, the rounds so far are fewer than t
    pub counting_few : Rising E → Forest (layout n t shifts) E → 0 < left → k ≤ max_t
    unfolding layout
    counting_few up f h =
        let z : 0 < length (after (layout n t shifts) k E) = omega (arith, p.reached.counted) in
        omega (arith, (after_costs (layout n t shifts) (plan_valid p.ready.good) up f k z).1, p.ready.good.t_max)

    pub counting_long : (length sum ≡ 2 * t) × (length tally ≡ 2 * t) × (length queue ≡ 2 * t)
    unfolding layout
    counting_long = (p.reached.picture.sum_long, p.reached.picture.counted.long, p.ready.rows.long)

    pub counting_end : left ≡ 0 → Rounds (layout n t shifts) E k
    counting_end e = record {
      has = no_places (after (layout n t shifts) k E) (λ h. omega (arith, p.reached.counted));
      least = λ j z. by_cases (dec_lt j k) (λ h. absurd (omega (arith, p.some j h, ap length z))) (λ n. omega arith);
    }

-- the marks of a plan that is not refused
pub plan_lent : (p : Plan) (m : List ℕ) → plan_check p ≡ Ok tt → length m ≡ mark_bytes (layout_of p) → NoSpare (layout_of p) m → Lent p.n p.t p.shifts m
unfolding layout_of layout mark_bytes
plan_lent p m good long spare = record { good = good_bounds p good; marks_long = long; no_spare = spare }

-- its rows' part of a table
pub plan_table : (p : Plan) → plan_check p ≡ Ok tt → (take (2 * p.t) (replicate {A = ℕ} (2 * max_t) 0) ≡ replicate (2 * p.t) 0) × (2 * p.t ≡ length (take (2 * p.t) (replicate {A = ℕ} (2 * max_t) 0)))
plan_table p good =
    let h : 2 * p.t ≤ 2 * max_t = omega (arith, good_bounds p good) in
    let z : Zeros (2 * p.t) (replicate (2 * max_t) 0) = zeros (2 * max_t) h in
    (zeros_part z, front_long (2 * p.t) (replicate (2 * max_t) 0) (zeros_room z))
