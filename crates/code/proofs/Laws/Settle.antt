-- T1, settling: a check with a single erased position c forces its symbol, the sum of the check's other positions, and takes c from the erasures.
-- First for any family of checks (settle, settled), then for the rows of a layout (settle_row, settle_places).
use Rattle.std.specs.Prelude.{◌≡◌, refl, ◌≢◌, ◌↔◌, ℕ, ◌*◌, ◌<◌}
use Rattle.std.proofs.Common.{sym, ◌∙◌, ap, subst, eq-eqb, ne_eqb}
use Rattle.std.proofs.Math.Logic.{by_cases}
use mathlib.Core.List.Memᴰ
use mathlib.Core.List.{List, [], Memᴰ}
use Rattle.std.proofs.Math.Decide.{ℕ_discrete}
use Rattle.math.specs.Members.{◌∈◌, without, Distinct}
use Rattle.math.specs.MembersLaws.{∈_is_in, ∉_is_in, ∈_keep, keep_∈, distinct_keep, ∈_without, without_∈}
use Rattle.math.specs.Xor.{◌⊕◌, ⊕_eq, zero_⊕}
use Rattle.math.specs.Sums.{xor_over}
use Rattle.math.specs.SumsLaws.{xor_over_ext, xor_over_keep, xor_over_split}
use Rattle.plan.specs.Layout.{Layout}
use Rattle.code.specs.Places.{places, rows, Meets, meets}
use Rattle.code.specs.Codewords.{syndrome, blank}
use Rattle.code.specs.Checks.{Satisfies, Fills, update, row_places, row_checks}
use Rattle.code.proofs.Laws.Basics.{distinct_places, ∈_rows, rows_∈, meets_true, true_meets}

pub update_same : (v : ℕ → ℕ) (c x : ℕ) → update v c x c ≡ x
unfolding update
update_same v c x = rw (eq-eqb c c refl)

pub update_other : (v : ℕ → ℕ) (c x : ℕ) {d : ℕ} → d ≢ c → update v c x d ≡ v d
unfolding update
update_other v c x {d} n = rw (ne_eqb d c n)

pub blank_in : {E : List ℕ} (v : ℕ → ℕ) {c : ℕ} → c ∈ E → blank E v c ≡ 0
unfolding blank
blank_in v m = rw (∈_is_in m)

pub blank_out : {E : List ℕ} (v : ℕ → ℕ) {c : ℕ} → ¬ (c ∈ E) → blank E v c ≡ v c
unfolding blank
blank_out {E} v {c} n = rw (∉_is_in n)

-- a position of a check that sums to 0 is the sum of the others
pub forced : {K : List ℕ} (v w : ℕ → ℕ) {c : ℕ} → Distinct K → c ∈ K → xor_over K w ≡ 0 → ((d : ℕ) → d ∈ K → d ≢ c → w d ≡ v d) →
    w c ≡ xor_over (without c K) v
forced {K} v w {c} s m z h =
    ⊕_eq (w c) (xor_over (without c K) w) (sym (xor_over_split w s m) ∙ z)
    ∙ xor_over_ext (without c K) w v (λ d k. let o = without_∈ c K k in h d o.0 o.1)

-- one settling step, at the positions that have a property P
agree_step : (P : ℕ → Type 0) (E : List ℕ) (v w : ℕ → ℕ) (c x : ℕ) → P c → c ∈ E →
    (((d : ℕ) → P d → ¬ (d ∈ E) → w d ≡ v d) → w c ≡ x) →
    ((d : ℕ) → P d → ¬ (d ∈ E) → w d ≡ v d) ↔ ((d : ℕ) → P d → ¬ (d ∈ without c E) → w d ≡ update v c x d)
agree_step P E v w c x p m f = (on, back)
  where
    on : ((d : ℕ) → P d → ¬ (d ∈ E) → w d ≡ v d) → (d : ℕ) → P d → ¬ (d ∈ without c E) → w d ≡ update v c x d
    on h d q n =
        by_cases (ℕ_discrete d c)
        (λ e. rw e (f h ∙ sym (update_same v c x)))
        (λ e. h d q (λ k. n (∈_without k e)) ∙ sym (update_other v c x e))

    back : ((d : ℕ) → P d → ¬ (d ∈ without c E) → w d ≡ update v c x d) → (d : ℕ) → P d → ¬ (d ∈ E) → w d ≡ v d
    back h d q n = h d q (λ k. n (without_∈ c E k).0) ∙ update_other v c x (λ e. n (Memᴰ.cast e m))

-- T1
pub settle : (checks : List (List ℕ)) (E : List ℕ) (v : ℕ → ℕ) (K : List ℕ) → Memᴰ K checks → Distinct K →
    (c : ℕ) → c ∈ K → c ∈ E → ((d : ℕ) → d ∈ K → d ∈ E → d ≡ c) → (w : ℕ → ℕ) →
    Fills checks E v w ↔ Fills checks (without c E) (update v c (xor_over (without c K) v)) w
settle checks E v K k s c i m u w = (
  λ f. record { satisfies = f.satisfies; unmarked = λ d. (step f.satisfies).0 (λ e _. f.unmarked e) d tt },
  λ f. record { satisfies = f.satisfies; unmarked = λ d. (step f.satisfies).1 (λ e _. f.unmarked e) d tt },
)
  where
    step : Satisfies checks w → ((d : ℕ) → Unit {0} → ¬ (d ∈ E) → w d ≡ v d)
        ↔ ((d : ℕ) → Unit {0} → ¬ (d ∈ without c E) → w d ≡ update v c (xor_over (without c K) v) d)
    step g =
        agree_step (λ _. Unit {0}) E v w c (xor_over (without c K) v) tt m
        (λ h. forced v w s i (g.sums K k) (λ d j n. h d tt (λ e. n (u d j e))))

-- with nothing erased the filling is v itself, if v satisfies the family
pub settled : (checks : List (List ℕ)) (v w : ℕ → ℕ) → Fills checks [] v w ↔ (Satisfies checks v × ((c : ℕ) → w c ≡ v c))
settled checks v w = (
  λ f.
      let e : (c : ℕ) → w c ≡ v c = λ c. f.unmarked c (λ m. Memᴰ.not-nil m) in
      (record { sums = λ K k. xor_over_ext K v w (λ c _. sym (e c)) ∙ f.satisfies.sums K k }, e),
  λ p. record {
    satisfies = record { sums = λ K k. xor_over_ext K w v (λ c _. p.1 c) ∙ p.0.sums K k };
    unmarked = λ c _. p.1 c;
  },
)

-- rows are such checks
pub ∈_row_places : (L : Layout) {c r : ℕ} → c ∈ places L → Meets L c r → c ∈ row_places L r
unfolding row_places
∈_row_places L {c} {r} m h = ∈_keep (λ d. meets L d r) m (meets_true L c h)

pub row_places_∈ : (L : Layout) (r : ℕ) {c : ℕ} → c ∈ row_places L r → (c ∈ places L) × Meets L c r
unfolding row_places
row_places_∈ L r {c} m = let k = keep_∈ (λ d. meets L d r) (places L) m in (k.0, true_meets L c r k.1)

pub row_sum : (L : Layout) (w : ℕ → ℕ) (r : ℕ) → xor_over (row_places L r) w ≡ syndrome L w r
unfolding row_places syndrome
row_sum L w r = xor_over_keep (λ c. meets L c r) (places L) w

pub distinct_row : (L : Layout) (r : ℕ) → Distinct (row_places L r)
unfolding row_places
distinct_row L r = distinct_keep (λ c. meets L c r) (distinct_places L)

pub row_check : (L : Layout) {r : ℕ} → r < 2 * L.t → Memᴰ (row_places L r) (row_checks L)
unfolding row_checks
row_check L {r} h = Memᴰ.map (λ s. row_places L s) (∈_rows L h)

pub check_row : (L : Layout) (K : List ℕ) → Memᴰ K (row_checks L) → (r : ℕ) × (r < 2 * L.t) × (row_places L r ≡ K)
unfolding row_checks
check_row L K m = let o = Memᴰ.of_map (λ s. row_places L s) (rows L) m in (o.0, rows_∈ L o.1, o.2)

pub rows_satisfied : (L : Layout) (w : ℕ → ℕ) → Satisfies (row_checks L) w ↔ ((r : ℕ) → r < 2 * L.t → syndrome L w r ≡ 0)
rows_satisfied L w = (
  λ s r h. sym (row_sum L w r) ∙ s.sums (row_places L r) (row_check L h),
  λ z. record { sums = λ K k. let o = check_row L K k in ap (λ l. xor_over l w) (sym o.2) ∙ row_sum L w o.0 ∙ z o.0 o.1 },
)

-- T1 for a layout: c is the only erasure that meets row r
module _ (L : Layout) (E : List ℕ) (v : ℕ → ℕ) (r : ℕ) (c : ℕ) (inside : c ∈ places L) (meet : Meets L c r) (erased : c ∈ E)
    (sole : (d : ℕ) → d ∈ places L → Meets L d r → d ∈ E → d ≡ c) where
  -- the sum over the row's other places is the row sum over the places that are not erased
  pub other_places : xor_over (without c (row_places L r)) v ≡ syndrome L (blank E v) r
  other_places =
      xor_over_ext (without c (row_places L r)) v (blank E v)
      (λ d k.
      let o = without_∈ c (row_places L r) k in
      let p = row_places_∈ L r o.0 in
      sym (blank_out v (λ e. o.1 (sole d p.0 p.1 e))))
      ∙ sym (zero_⊕ (xor_over (without c (row_places L r)) (blank E v)))
      ∙ ap (λ x. x ⊕ xor_over (without c (row_places L r)) (blank E v)) (sym (blank_in v erased))
      ∙ sym (xor_over_split (blank E v) (distinct_row L r) (∈_row_places L inside meet))
      ∙ row_sum L (blank E v) r

  pub settle_row : r < 2 * L.t → (w : ℕ → ℕ) →
      Fills (row_checks L) E v w ↔ Fills (row_checks L) (without c E) (update v c (syndrome L (blank E v) r)) w
  settle_row h w =
      subst (λ x. Fills (row_checks L) E v w ↔ Fills (row_checks L) (without c E) (update v c x) w) other_places
      (settle (row_checks L) E v (row_places L r) (row_check L h) (distinct_row L r) c (∈_row_places L inside meet) erased
      (λ d k. let p = row_places_∈ L r k in sole d p.0 p.1) w)

  -- the symbol that a row sum of 0 forces
  pub row_forced : (w : ℕ → ℕ) → syndrome L w r ≡ 0 → ((d : ℕ) → d ∈ places L → ¬ (d ∈ E) → w d ≡ v d) →
      w c ≡ syndrome L (blank E v) r
  row_forced w z h =
      forced v w (distinct_row L r) (∈_row_places L inside meet) (row_sum L w r ∙ z)
      (λ d k n. let p = row_places_∈ L r k in h d p.0 (λ e. n (sole d p.0 p.1 e)))
      ∙ other_places

  -- the step at the places alone
  pub settle_places : (w : ℕ → ℕ) → syndrome L w r ≡ 0 →
      ((d : ℕ) → d ∈ places L → ¬ (d ∈ E) → w d ≡ v d)
      ↔ ((d : ℕ) → d ∈ places L → ¬ (d ∈ without c E) → w d ≡ update v c (syndrome L (blank E v) r) d)
  settle_places w z = agree_step (λ d. d ∈ places L) E v w c (syndrome L (blank E v) r) inside erased (row_forced w z)
