-- The places of erasures on the rows: how many rows they touch, and that a forest has leaves, rows with exactly one.
-- Main results: incidences (each place meets two rows), forest_touched (a forest touches more rows than it has places), forest_sub, forest_leaves (it has two
-- leaves or more).
use Rattle.std.specs.Prelude.{◌≡◌, refl, ◌≢◌, Bool, not, List, [], ◌∷◌}
use Rattle.std.proofs.Common.{sym, ◌∙◌, ap, ap₂, subst, inl, inr}
use Rattle.std.proofs.Math.Logic.{by_cases}
use Rattle.std.proofs.Math.Bool.{false}
use mathlib.Core.List.Memᴰ
use mathlib.Core.List.Memᴰ.{head as first}
use mathlib.Core.List.Memᴰ.{tail as later}
use Prim.Native.Nat.{ℕ, suc, ◌+◌, ◌*◌, ◌≤◌, ◌<◌}
use Rattle.std.proofs.Math.Decide.{ℕ_discrete}
use native.Mathlib.Omega.{arith}
use Rattle.std.proofs.Math.Dec.{eqb}
use Rattle.std.proofs.Math.ListN.{length}
use borrow.Author.Tests.{eq-eqb, ne_eqb, eqb-true, eqb-false, not-true}
use Rattle.math.specs.Members.{◌∈◌, keep, without, Rising, Distinct, distinct_more}
use Rattle.math.specs.MembersLaws.{by_test, by_place, ∈_keep, keep_∈, keep_split, distinct_keep, length_keep_le, length_without}
use Rattle.math.specs.Pigeonhole.{get_or_∈, distinct_length}
use Rattle.math.specs.Sums.{sum_over, only}
use Rattle.math.specs.SumsLaws.{only_true, only_false, sum_over_ext, sum_over_zero, sum_over_add, sum_over_const, sum_over_keep, sum_over_le, length_keep_sum}
use Rattle.plan.specs.Layout.{Layout, Valid, top, bottom}
use Rattle.code.specs.Places.{rows, Meets, meets}
use Rattle.code.specs.Codewords.{at}
use Rattle.code.specs.Components.{Connected, here, along}
use Rattle.code.specs.Rounds.{on_row}
use Rattle.code.specs.Laws.Forest.{Forest}
use Rattle.code.proofs.Laws.Basics.{∈_rows, rows_∈, distinct_rows, meets_row, top≢bottom, meets_true, true_meets}
use Rattle.code.specs.Laws.Labels.{label}
use Rattle.code.proofs.Laws.Labels.{connected_mono, connected_sym, connected_own, label_lt, label_idem}
use Rattle.code.specs.Laws.Roots.{roots}
use Rattle.code.proofs.Laws.Roots.{∈_roots, length_rows, roots_forest}
use Rattle.code.proofs.Laws.Paths.{∈_above, above_∈}
use Rattle.code.proofs.Laws.CycleLaws.{forest_at, forest_by_place}

-- a distinct list has one member that is a
once : {l : List ℕ} {a : ℕ} → Distinct l → a ∈ l → sum_over l (λ c. only (eqb c a) 1) ≡ 1
unfolding without
once {l} {a} d m = omega (arith, length_keep_sum (λ c. eqb c a) l, keep_split (λ c. eqb c a) l, length_without d m)

-- ---- the places of a row

pub ∈_on_row : (L : Layout) {E : List ℕ} {c r : ℕ} → c ∈ E → Meets L c r → c ∈ on_row L E r
unfolding on_row
∈_on_row L {c = c} {r = r} m h = ∈_keep (λ d. meets L d r) m (meets_true L c h)

pub on_row_∈ : (L : Layout) (E : List ℕ) (r : ℕ) {c : ℕ} → c ∈ on_row L E r → (c ∈ E) × Meets L c r
unfolding on_row
on_row_∈ L E r {c} m = let k = keep_∈ (λ d. meets L d r) E m in (k.0, true_meets L c r k.1)

pub distinct_on_row : (L : Layout) (r : ℕ) {E : List ℕ} → Distinct E → Distinct (on_row L E r)
unfolding on_row
distinct_on_row L r = distinct_keep (λ d. meets L d r)

pub length_on_row_le : (L : Layout) (E : List ℕ) (r : ℕ) → length (on_row L E r) ≤ length E
unfolding on_row
length_on_row_le L E r = length_keep_le (λ c. meets L c r) E

-- a member makes a list longer than 0
pub ∈_length : {c : ℕ} {l : List ℕ} → c ∈ l → 0 < length l
∈_length (first e) = omega arith
∈_length (later m) = omega arith

pub on_row_some : (L : Layout) {E : List ℕ} {c r : ℕ} → c ∈ E → Meets L c r → 0 < length (on_row L E r)
on_row_some L m h = ∈_length (∈_on_row L m h)

pub on_row_one : (L : Layout) (E : List ℕ) (r : ℕ) → 0 < length (on_row L E r) → (c : ℕ) × (c ∈ E) × Meets L c r
on_row_one L E r h = let k = on_row_∈ L E r (get_or_∈ (on_row L E r) h) in (at (on_row L E r) 0, k.0, k.1)

on_row_step : (L : Layout) (c : ℕ) (E : List ℕ) (r : ℕ) → length (on_row L (c ∷ E) r) ≡ only (meets L c r) 1 + length (on_row L E r)
unfolding on_row keep only
on_row_step L c E r = by_test (meets L c r) (λ t. rw t (omega arith)) (λ f. rw f (omega arith))

module _ (L : Layout) (ok : Valid L) where
  -- a sub-list of a forest is a forest
  pub forest_sub : {E F : List ℕ} → Rising E → Rising F → ((c : ℕ) → c ∈ F → c ∈ E) → Forest L E → Forest L F
  forest_sub {E} {F} re rf sub f =
      forest_by_place L ok rf (λ c m q. forest_at L ok re f (sub c m)
      (connected_mono (λ d i. let k = above_∈ c F i in ∈_above (sub d k.0) k.1) q))

  -- ---- incidences

  meets_one : (c r : ℕ) → only (meets L c r) 1 ≡ only (eqb r (top L c)) 1 + only (eqb r (bottom L c)) 1
  unfolding meets only
  meets_one c r =
      by_test (eqb r (top L c))
      (λ e. let f : eqb r (bottom L c) ≡ false = ne_eqb r (bottom L c) (λ g. top≢bottom L ok c c (sym (eqb-true r (top L c) e) ∙ g)) in rw (e, f))
      (λ e. rw e (omega arith))

  two_rows : (c : ℕ) → sum_over (rows L) (λ r. only (meets L c r) 1) ≡ 2
  two_rows c =
      sum_over_ext (rows L) (λ r. only (meets L c r) 1) (λ r. only (eqb r (top L c)) 1 + only (eqb r (bottom L c)) 1) (λ r m. meets_one c r)
      ∙ sum_over_add (rows L) (λ r. only (eqb r (top L c)) 1) (λ r. only (eqb r (bottom L c)) 1)
      ∙ ap₂ ◌+◌ (once (distinct_rows L) (∈_rows L (meets_row L ok c (inl refl)))) (once (distinct_rows L) (∈_rows L (meets_row L ok c (inr refl))))

  -- each place meets two rows
  pub incidences : (E : List ℕ) → sum_over (rows L) (λ r. length (on_row L E r)) ≡ 2 * length E
  incidences [] = sum_over_zero (rows L) (λ r. length (on_row L [] r)) (λ r m. omega (arith, length_on_row_le L [] r))
  incidences (c ∷ E) =
      let e = sum_over_ext (rows L) (λ r. length (on_row L (c ∷ E) r)) (λ r. only (meets L c r) 1 + length (on_row L E r)) (λ r m. on_row_step L c E r) in
      let a = sum_over_add (rows L) (λ r. only (meets L c r) 1) (λ r. length (on_row L E r)) in
      omega (arith, two_rows c, incidences E)

-- ---- counting rows

-- the rows with no place of E, and the others
untouched : Layout → List ℕ → List ℕ
untouched L E = keep (λ r. eqb (length (on_row L E r)) 0) (rows L)

unfoldable pub touched : Layout → List ℕ → List ℕ
touched L E = keep (λ r. not (eqb (length (on_row L E r)) 0)) (rows L)

rows_split : (L : Layout) (E : List ℕ) → length (untouched L E) + length (touched L E) ≡ 2 * L.t
unfolding untouched touched
rows_split L E = keep_split (λ r. eqb (length (on_row L E r)) 0) (rows L) ∙ length_rows L

untouched_∈ : (L : Layout) (E : List ℕ) {r : ℕ} → r ∈ untouched L E → (r < 2 * L.t) × (length (on_row L E r) ≡ 0)
unfolding untouched
untouched_∈ L E {r} m =
    let k = keep_∈ (λ s. eqb (length (on_row L E s)) 0) (rows L) m in
    (rows_∈ L k.0, eqb-true (length (on_row L E r)) 0 k.1)

distinct_untouched : (L : Layout) (E : List ℕ) → Distinct (untouched L E)
unfolding untouched
distinct_untouched L E = distinct_keep (λ r. eqb (length (on_row L E r)) 0) (distinct_rows L)

-- a row that no place meets is connected with itself alone
only_itself : {L : Layout} {E : List ℕ} {r s : ℕ} → length (on_row L E r) ≡ 0 → Connected L E r s → r ≡ s
only_itself z here = refl
only_itself {L} {E} {r} z (along {s = s} c q m a b) =
    let e : r ≡ s = only_itself z q in
    absurd (omega (arith, on_row_some L m (subst (λ x. Meets L c x) (sym e) a)))

pub touched_∈ : (L : Layout) (E : List ℕ) {r : ℕ} → r ∈ touched L E → (r < 2 * L.t) × (0 < length (on_row L E r))
unfolding touched
touched_∈ L E {r} m =
    let k = keep_∈ (λ s. not (eqb (length (on_row L E s)) 0)) (rows L) m in
    let n : length (on_row L E r) ≢ 0 = eqb-false (length (on_row L E r)) 0 (not-true (eqb (length (on_row L E r)) 0) k.1) in
    (rows_∈ L k.0, omega arith)

pub ∈_touched : (L : Layout) (E : List ℕ) {r : ℕ} → r < 2 * L.t → 0 < length (on_row L E r) → r ∈ touched L E
unfolding touched
∈_touched L E {r} l h =
    ∈_keep (λ s. not (eqb (length (on_row L E s)) 0)) (∈_rows L l) (ap not (ne_eqb (length (on_row L E r)) 0 (λ e. omega arith)))

pub distinct_touched : (L : Layout) (E : List ℕ) → Distinct (touched L E)
unfolding touched
distinct_touched L E = distinct_keep (λ r. not (eqb (length (on_row L E r)) 0)) (distinct_rows L)

pub touched_le : (L : Layout) (E : List ℕ) → length (touched L E) ≤ 2 * L.t
touched_le L E = omega (arith, rows_split L E)

pub touched_sub : (L : Layout) {E F : List ℕ} → ((c : ℕ) → c ∈ F → c ∈ E) → length (touched L F) ≤ length (touched L E)
touched_sub L {E} {F} sub =
    distinct_length (distinct_touched L F) (λ r m.
    let k = touched_∈ L F m in
    let c = on_row_one L F r k.1 in
    ∈_touched L E k.0 (on_row_some L (sub c.0 c.1) c.2))

-- 2 for each touched row
pub doubles : (L : Layout) (E : List ℕ) → sum_over (rows L) (λ r. only (not (eqb (length (on_row L E r)) 0)) 2) ≡ length (touched L E) * 2
unfolding touched
doubles L E =
    let test : ℕ → Bool = λ r. not (eqb (length (on_row L E r)) 0) in
    sym (sum_over_keep test (rows L) (λ r. 2)) ∙ sum_over_const (keep test (rows L)) 2

module _ (L : Layout) (ok : Valid L) where
  -- the rows that no place meets are roots, and so is the lowest row of a component with a place
  pub forest_touched : {E : List ℕ} {c : ℕ} → Forest L E → c ∈ E → length E < length (touched L E)
  forest_touched {E} {c} f m =
      let a : ℕ = label L E (top L c) in
      let n : ¬ (a ∈ untouched L E) = λ i.
      let z : length (on_row L E a) ≡ 0 = (untouched_∈ L E i).1 in
      let e : a ≡ top L c = only_itself z (connected_sym (connected_own L E (top L c))) in
      omega (arith, on_row_some L m (inl e)) in
      let d : Distinct (a ∷ untouched L E) = distinct_more n (distinct_untouched L E) in
      let h : suc (length (untouched L E)) ≤ length (roots L E) = distinct_length d (λ r i. by_place i
      (λ e. Memᴰ.cast e (∈_roots L E (label_lt L E (meets_row L ok c (inl refl))) (label_idem L E (top L c))))
      (λ j. let k = untouched_∈ L E j in ∈_roots L E k.0 (sym (only_itself k.1 (connected_own L E r))))) in
      omega (arith, rows_split L E, roots_forest L ok f)

-- ---- leaves

-- the rows with exactly one place of E
unfoldable pub leaves : Layout → List ℕ → List ℕ
leaves L E = keep (λ r. eqb (length (on_row L E r)) 1) (rows L)

pub leaves_∈ : (L : Layout) (E : List ℕ) {r : ℕ} → r ∈ leaves L E → (r < 2 * L.t) × (length (on_row L E r) ≡ 1)
unfolding leaves
leaves_∈ L E {r} m =
    let k = keep_∈ (λ s. eqb (length (on_row L E s)) 1) (rows L) m in
    (rows_∈ L k.0, eqb-true (length (on_row L E r)) 1 k.1)

pub distinct_leaves : (L : Layout) (E : List ℕ) → Distinct (leaves L E)
unfolding leaves
distinct_leaves L E = distinct_keep (λ r. eqb (length (on_row L E r)) 1) (distinct_rows L)

-- a row that is touched has two places, or it is a leaf
two_or_leaf : (x : ℕ) → only (not (eqb x 0)) 2 ≤ x + only (eqb x 1) 1
two_or_leaf x =
    by_cases (ℕ_discrete x 0)
    (λ e. rw (only_false 2 (ap not (eq-eqb x 0 e))) (omega arith))
    (λ n. by_cases (ℕ_discrete x 1)
    (λ e. rw (only_true 2 (ap not (ne_eqb x 0 n)), only_true 1 (eq-eqb x 1 e)) (omega arith))
    (λ m. rw (only_true 2 (ap not (ne_eqb x 0 n))) (omega arith)))

module _ (L : Layout) (ok : Valid L) where
  -- a forest with a place has two leaves or more: it touches more rows than it has places
  pub forest_leaves : {E : List ℕ} {c : ℕ} → Forest L E → c ∈ E → 2 ≤ length (leaves L E)
  unfolding leaves
  forest_leaves {E} {c} f m =
      let x : ℕ → ℕ = λ r. length (on_row L E r) in
      let h = sum_over_le (rows L) (λ r. only (not (eqb (x r) 0)) 2) (λ r. x r + only (eqb (x r) 1) 1) (λ r _. two_or_leaf (x r)) in
      omega (
        arith,
        doubles L E,
        sum_over_add (rows L) x (λ r. only (eqb (x r) 1) 1),
        incidences L ok E,
        length_keep_sum (λ r. eqb (x r) 1) (rows L),
        forest_touched L ok f m,
      )
