-- Why a block is refused. It is known by the sums of its rows, with whatever symbols at the erasures: these enter each component twice. So an
-- explanation is right for every block with these sums.
-- Main results: explains_crossed, explains_loose (the two refusals), loosens_shown, loosens_forest (the cycle, or none).
use Rattle.std.specs.Prelude.{◌≡◌, refl, List, ℕ, ◌*◌, ◌<◌, length, get_or, Option, Some}
use Rattle.std.specs.Prelude as Prelude
use Rattle.std.proofs.Common.{sym, ◌∙◌}
use Rattle.std.proofs.Math.Path.{subst}
use Rattle.plan.specs.Layout.{Layout, Valid, layout}
use Rattle.plan.specs.GoodPlan.{plan_valid}
use Rattle.math.specs.Members.{◌∈◌}
use Rattle.math.specs.Sums.{xor_over}
use Rattle.code.specs.Places.{places}
use Rattle.code.specs.Codewords.{at, syndrome, blank, Agrees, None}
use Rattle.code.specs.Marks.{erasures}
use Rattle.code.specs.Laws.Forest.{Erased, Forest}
use Rattle.code.proofs.Laws.Balance.{class_sum, class_sum_component, class_sum_ext, blank_outside, exists}
use Rattle.code.specs.Laws.Labels.{label, component_of}
use Rattle.code.proofs.Laws.MarksLaws.{erasures_erased}
use Rattle.tables.specs.Scan as Scan
use Rattle.tables.specs.Spots.{Stands}
use Rattle.tables.specs.declared.walk.Spot.{Spot}
use Rattle.components.specs.Walks.{Closed, Labelled, labelled_in}
use Rattle.components.specs.Shows.{Lent, Shows, Unbalanced, crossed_inconsistent, balanced_imbalance}
use Rattle.cycle.specs.Shows as cycle
use Rattle.promises.specs.Promises.{Decides}
use Rattle.promises.proofs.Building.{decides_loose, decides_crossed}
use Rattle.answers.specs.declared.Recovery.{Recovery}
use Rattle.answers.specs.declared.Recovery.TheVariants.{Crossed, Loose}

-- the answer is right for every block v that with some symbols at the erasures has these sums, if no codeword agrees with it where the erasures are a forest
pub record Explains (L : Layout) (E sum : List ℕ) (r : Recovery) (w' : List ℕ) : Type 0 where
  pub decides : (v : List ℕ) (x : ℕ → ℕ) → length v ≡ L.n * L.t → ((c : ℕ) → at v c < 256)
      → ((c : ℕ) → c ∈ places L → ¬ (c ∈ E) → x c ≡ at v c)
      → ((s : ℕ) → s < 2 * L.t → get_or sum s 0 ≡ syndrome L x s)
      → (Forest L E → None (Agrees L E v)) → Decides L E v r v w'

-- the same of a block with which some codeword agrees
pub record Loosens (L : Layout) (E : List ℕ) (r : Recovery) (w' : List ℕ) : Type 0 where
  pub decides : (v : List ℕ) → (x : List ℕ) × Agrees L E v x → (Forest L E → None (Agrees L E v)) → Decides L E v r v w'

module _ (L : Layout) (ok : Valid L) (E v : List ℕ) (x : ℕ → ℕ) (off : (c : ℕ) → c ∈ places L → ¬ (c ∈ E) → x c ≡ at v c) where
  -- what stands at the erasures changes no sum of a component
  class_same : (q : ℕ) → class_sum L E q x ≡ class_sum L E q (blank E (at v))
  class_same q = class_sum_ext L ok E q x (blank E (at v)) (λ c m out. off c m out ∙ sym (blank_outside (at v) out))

  component_same : (r : ℕ) → xor_over (component_of L E r) (syndrome L x) ≡ xor_over (component_of L E r) (syndrome L (blank E (at v)))
  component_same r = class_sum_component L E x r ∙ class_same (label L E r) ∙ sym (class_sum_component L E (blank E (at v)) r)

  unbalanced_same : {z : ℕ} {w : List ℕ} → Unbalanced L E x z w → Unbalanced L E (blank E (at v)) z w
  unbalanced_same u = record {
    r = u.r;
    inside = u.inside;
    root = u.root;
    uneven = λ e. u.uneven (component_same u.r ∙ e);
    lowest = λ s h e. sym (component_same s) ∙ u.lowest s h e;
    count = u.count;
    written = u.written;
  }

module _ (L : Layout) (ok : Valid L) {E : List ℕ} (er : Erased L E) {parent sum : List ℕ} {k : Option Spot} (labelled : Labelled L E parent k) where
  pub explains_crossed : {w w' : List ℕ} {z : ℕ} → Shows L.t parent sum w w' (Some z) → Explains L E sum (Crossed z) w'
  explains_crossed {w' = w'} {z = z} shows = record {
    decides = λ v x long byte off sums none.
        let u : Unbalanced L E (blank E (at v)) z w' = unbalanced_same L ok E v x off (shows.says L E x refl labelled.labels sums) in
        subst (λ i. Decides L E v (Crossed i) v w') (sym u.count)
        (decides_crossed ok er (crossed_inconsistent ok.positive u) u.written);
  }

  pub explains_loose : {w w₁ w' : List ℕ} {r : Recovery} → Shows L.t parent sum w w₁ Prelude.None → Loosens L E r w' → Explains L E sum r w'
  explains_loose shows loose = record {
    decides = λ v x long byte off sums.
        loose.decides v (exists L ok E v er long byte
        (balanced_imbalance L E (at v) (λ q. sym (class_same L ok E v x off q) ∙ (shows.says L E x refl labelled.labels sums).0 q)));
  }

-- without a closing place there is a forest
pub closed_none : (L : Layout) (E : List ℕ) {k : Option Spot} → k ≡ Prelude.None → Closed L E k → Forest L E
closed_none L E e h = subst (λ i. Closed L E i) e h

-- a forest has no cycle, and no block with a forest of erasures is asked about
pub loosens_forest : {L : Layout} {E : List ℕ} {r : Recovery} {w' : List ℕ} → Forest L E → Loosens L E r w'
loosens_forest f = record { decides = λ v a none. absurd (none f a.0 a.1) }

module _ {n t : ℕ} {shifts marks : List ℕ} (m : Scan.Lent n t shifts marks) where
  -- the closing place, with its section and offset
  pub closed_at : {k : Option Spot} {s : Spot} → k ≡ Some s → Closed (layout n t shifts) (erasures (layout n t shifts) marks) k
      → cycle.Closing n t shifts marks s.place.0 × Stands t s.place.0 s.section s.offset
  unfolding layout
  closed_at {s = s} e h =
      let E = erasures (layout n t shifts) marks in
      let q : Closed (layout n t shifts) E (Some s) = subst (λ k. Closed (layout n t shifts) E k) e h in (
        record {
          good = m.good;
          marks_long = m.marks_long;
          no_spare = m.no_spare;
          member = q.0.marked;
          forest = q.0.forest;
          connected = q.0.connected;
        },
        q.1,
      )

  pub loosens_shown : {c z : ℕ} {w' : List ℕ} → cycle.Showing n t shifts marks c w' z
      → Loosens (layout n t shifts) (erasures (layout n t shifts) marks) (Loose z) w'
  unfolding layout
  loosens_shown {w' = w'} h = record {
    decides = λ v a none.
        subst (λ i. Decides (layout n t shifts) (erasures (layout n t shifts) marks) v (Loose i) v w') (sym h.counted)
        (decides_loose (plan_valid m.good) (erasures_erased (layout n t shifts) marks) h.is_cycle h.highest a h.written);
  }

  -- the labels of the rows, and the sums
  module _ {parent : List ℕ} {k : Option Spot} (labelled : Labelled (layout n t shifts) (erasures (layout n t shifts) marks) parent k) where
    pub labels_lent : {sum total w : List ℕ} → length sum ≡ 2 * t → length total ≡ 2 * t → length w ≡ 2 * t → Lent t parent sum total w
    unfolding layout
    labels_lent ls lt lw = record {
      t_min = m.good.t_min;
      t_max = m.good.t_max;
      parent_long = labelled.long;
      sum_long = ls;
      total_long = lt;
      witness_long = lw;
      parent_in = labelled_in labelled;
    }

    pub labels_crossed : {sum w w' : List ℕ} {z : ℕ} {a : Option ℕ} → Shows t parent sum w w' a → a ≡ Some z
        → Explains (layout n t shifts) (erasures (layout n t shifts) marks) sum (Crossed z) w'
    unfolding layout
    labels_crossed shows e =
        explains_crossed (layout n t shifts) (plan_valid m.good) (erasures_erased (layout n t shifts) marks) labelled (rw e at shows)

    pub labels_loose : {sum w w₁ w' : List ℕ} {a : Option ℕ} {r : Recovery} → Shows t parent sum w w₁ a → a ≡ Prelude.None
        → Loosens (layout n t shifts) (erasures (layout n t shifts) marks) r w'
        → Explains (layout n t shifts) (erasures (layout n t shifts) marks) sum r w'
    unfolding layout
    labels_loose shows e =
        explains_loose (layout n t shifts) (plan_valid m.good) (erasures_erased (layout n t shifts) marks) labelled (rw e at shows)
