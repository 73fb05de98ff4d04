-- One round (Rounded): the rows that stand in the queue when it starts, settled one by one, leave what the round leaves.
-- L is always the layout of n, t and the shifts.
use Rattle.std.specs.Prelude.{◌≡◌, false, List, ℕ, ◌+◌, ◌*◌, ◌≤◌, ◌<◌, length, get_or}
use Rattle.std.proofs.Common.{sym, ◌∙◌, subst, inl, ⊎_elim, true≢false, le_antisymm, arith}
use Rattle.std.proofs.Math.Logic.{by_cases}
use Rattle.math.specs.Members.{◌∈◌}
use Rattle.math.specs.MembersLaws.{by_test, dec_in, rising_ext}
use Rattle.plan.specs.Layout.{Layout, Valid, layout}
use Rattle.plan.specs.GoodPlan.{plan_valid}
use Rattle.code.specs.Rounds.{on_row, alone, round}
use Rattle.code.specs.Laws.Forest.{Erased}
use Rattle.code.proofs.Laws.Basics.{meets_row}
use Rattle.code.proofs.Laws.Leaves.{on_row_some}
use Rattle.code.proofs.Laws.RoundsLaws.{alone_row, ∈_round, round_∈, rising_round}
use Rattle.tables.specs.Picture.{counts}
use Rattle.tables.proofs.Bounds.{tally_counts}
use Rattle.rounding.specs.OneRow.{Left, Ready, Within, Turned}

-- what a round does, whichever erasures it begins with; `end` is the tail at its start
pub record Rounded (n t : ℕ) (shifts sum tally : List ℕ) (end left : ℕ) (sum' tally' queue' : List ℕ) (tail' left' : ℕ) : Type 0 where
  pub ready : Ready n t shifts sum' tally' queue' end tail' left'
  pub rounded : (E : List ℕ) → Left (layout n t shifts) E sum tally left → Left (layout n t shifts) (round (layout n t shifts) E) sum' tally' left'

-- the loop's invariant: the tables at the start are sum₀ and tally₀
pub record Rounding (n t : ℕ) (shifts sum₀ tally₀ : List ℕ) (left₀ : ℕ) (sum tally queue : List ℕ) (i end tail left : ℕ) : Type 0 where
  pub ready : Ready n t shifts sum tally queue i tail left
  pub before : i ≤ end
  pub behind : end ≤ tail
  pub within : (E : List ℕ) → Left (layout n t shifts) E sum₀ tally₀ left₀ → Within (layout n t shifts) E sum tally queue i end left

pub rounding_start : {n t : ℕ} {shifts sum tally queue : List ℕ} {head tail left : ℕ} → Ready n t shifts sum tally queue head tail left
    → Rounding n t shifts sum tally left sum tally queue head tail tail left
unfolding layout
rounding_start {n} {t} {shifts} {sum} {tally} {queue} {head} {tail} d = record {
  ready = d;
  before = d.rows.queued.order;
  behind = omega arith;
  within = λ E p.
      let on : (r : ℕ) → r < 2 * t → counts tally r ≡ length (on_row (layout n t shifts) E r) = λ r l. tally_counts d.good p.picture.counted l in
      record {
        F = E;
        rest = p;
        fewer = λ c m. m;
        settled = λ c m o. absurd (o m);
        low = λ j x y. let e = d.rows.queued.entries in omega (arith, on (get_or queue j 0) (e.looked j y), e.low j y);
        due = λ r l o. inl (d.rows.queued.waiting r l (on r l ∙ o));
      };
}

pub rounding_step : {n t : ℕ} {shifts sum₀ tally₀ sum tally queue : List ℕ} {left₀ i end tail left : ℕ} {sum' tally' queue' : List ℕ} {tail' left' : ℕ}
    → Rounding n t shifts sum₀ tally₀ left₀ sum tally queue i end tail left → i < end
    → Turned n t shifts sum tally queue i tail left sum' tally' queue' tail' left'
    → Rounding n t shifts sum₀ tally₀ left₀ sum' tally' queue' (i + 1) end tail' left'
rounding_step {end = end} p h s = record {
  ready = s.ready;
  before = omega arith;
  behind = omega (arith, p.behind, s.longer);
  within = λ E q. s.within E end h p.behind (p.within E q);
}

-- no row is to come: what is left is what was not alone
within_end : (L : Layout) → Valid L → {E sum tally queue : List ℕ} {i end left : ℕ} → Erased L E → Within L E sum tally queue i end left → end ≤ i
    → Left L (round L E) sum tally left
within_end L ok {E} {sum} {tally} {queue} {i} {end} {left} er w h = subst (λ F. Left L F sum tally left) same w.rest
  where
    stays : (c : ℕ) → c ∈ w.F → alone L E c ≡ false
    stays c m =
        by_test (alone L E c)
        (λ e. let r = alone_row L E c e in
        absurd (⊎_elim (λ k. omega (arith, k.1, k.2)) (λ z. omega (arith, on_row_some L m r.1))
        (w.due r.0 (meets_row L ok c r.1) r.2)))
        (λ e. e)

    same : w.F ≡ round L E
    same = rising_ext w.rest.picture.counted.erased.rising (rising_round L er.rising)
        (λ c m. ∈_round L (w.fewer c m) (stays c m))
        (λ c m. let k = round_∈ L E m in
        by_cases (dec_in c w.F) (λ o. o) (λ o. absurd (true≢false (sym (w.settled c k.0 o) ∙ k.1))))

pub rounding_end : {n t : ℕ} {shifts sum₀ tally₀ sum tally queue : List ℕ} {left₀ i end tail left : ℕ}
    → Rounding n t shifts sum₀ tally₀ left₀ sum tally queue i end tail left → end ≤ i
    → Rounded n t shifts sum₀ tally₀ end left₀ sum tally queue tail left
rounding_end {n} {t} {shifts} {sum} {tally} {queue} {tail = tail} {left = left} p h = record {
  ready = subst (λ j. Ready n t shifts sum tally queue j tail left) (le_antisymm p.before h) p.ready;
  rounded = λ E q. within_end (layout n t shifts) (plan_valid p.ready.good) q.picture.counted.erased (p.within E q) h;
}

-- a turn makes the lists neither longer nor shorter
pub ready_long : {n t : ℕ} {shifts sum₀ tally₀ queue₀ sum tally queue : List ℕ} {head₀ tail₀ left₀ head tail left : ℕ}
    → Ready n t shifts sum₀ tally₀ queue₀ head₀ tail₀ left₀ → Ready n t shifts sum tally queue head tail left
    → (length sum ≡ length sum₀) × (length tally ≡ length tally₀) × (length queue ≡ length queue₀)
ready_long d p =
    let y = d.rest.picture in
    let z = p.rest.picture in
    (z.sum_long ∙ sym y.sum_long, z.counted.long ∙ sym y.counted.long, p.rows.long ∙ sym d.rows.long)
