-- The runs along the sections 0 .. n - 1, from the last one down. Main results: run_le, and Known, the invariant of the loop that computes them.
use Rattle.std.specs.Prelude.{◌≡◌, List, ◌∷◌, length, set, replicate}
use Rattle.std.proofs.Math.Path.{refl, sym, ap, ap₂}
use Rattle.std.proofs.Common.{◌∙◌}
use Rattle.std.proofs.Math.Logic.{by_cases}
use Prim.Native.Nat.{ℕ, zero, suc, ◌+◌, ◌-◌, ◌≤◌, ◌<◌}
use Rattle.std.proofs.Math.Nat.{le_of_dvd, pos_of_dvd_of_pos}
use Rattle.std.proofs.Math.Decide.{ℕ_discrete, dec_lt}
use native.Mathlib.Omega.{arith}
use Rattle.std.proofs.Math.ListN.{get_or, length-replicate, length-set}
use Rattle.std.proofs.Math.Seq.{get_or-set_same, get_or-set_other}
use Rattle.math.specs.Padded.{zeros_at}
use Rattle.math.specs.Gcd.{gcd, gap}
use Rattle.math.proofs.GcdLaws.{gcd_le}
use Rattle.math.specs.Members.{from, up_to}
use Rattle.plan.specs.Layout.{Layout, Valid, layout}
use Rattle.plan.specs.GoodPlan.{GoodPlan, plan_valid}
use Rattle.code.specs.Laws.Forest.{last_of, divisor_from, run, run_in, run_of}
use Rattle.code.proofs.Laws.ClosedForm.{last_of_tail, last_of_one, run_last, run_more, run_in_head, run_in_tail, divisor_from_base, divisor_from_le, divisor_from_step, divisor_from_dvd, divisor_from_last}
use Rattle.runs.specs.Runs.{RunsOf}

-- the list from a on, taken apart
from_head : (a : ℕ) {k m : ℕ} → k ≡ suc m → from a k ≡ a ∷ from (suc a) m
unfolding from
from_head a e = ap (from a) e

last_of_from : (a k : ℕ) → last_of (from a (suc k)) ≡ a + k
unfolding from
last_of_from a zero = last_of_one a ∙ omega arith
last_of_from a (suc k) = last_of_tail a (suc a) (from (suc (suc a)) k) ∙ last_of_from (suc a) k ∙ omega arith

module _ (L : Layout) where
  run_in_absent : (a k : ℕ) {j : ℕ} → a + k ≤ j → run_in L (from a k) j ≡ 0
  unfolding from run_in
  run_in_absent a zero h = refl
  run_in_absent a (suc k) {j} h = run_in_tail L {i = a} {j = j} (from (suc a) k) (λ e. omega arith) ∙ run_in_absent (suc a) k (omega arith)

  run_in_from : (a k : ℕ) {j : ℕ} → a ≤ j → j < a + k → run_in L (from a k) j ≡ run L j (from (suc j) (a + k - suc j))
  unfolding from
  run_in_from a zero l h = absurd (omega arith)
  run_in_from a (suc k) {j} l h =
      by_cases (ℕ_discrete a j)
      (λ e. let f : a + suc k - suc j ≡ k = omega arith in
      ap (λ x. run_in L (x ∷ from (suc x) k) j) e ∙ run_in_head L j (from (suc j) k) ∙ ap (λ x. run L j (from (suc j) x)) (sym f))
      (λ n. let f : suc a + k ≡ a + suc k = omega arith in
      run_in_tail L {i = a} {j = j} (from (suc a) k) n ∙ run_in_from (suc a) k (omega arith) (omega arith)
      ∙ ap (λ x. run L j (from (suc j) (x - suc j))) f)

-- the divisor of the sections from j on
unfoldable pub divisor_at : Layout → ℕ → ℕ
divisor_at L j = divisor_from L (from j (L.n - j))

module _ (L : Layout) (ok : Valid L) (all : L.sections ≡ up_to L.n) where
  run_of_up_to : (j : ℕ) → run_of L j ≡ run_in L (from 0 L.n) j
  unfolding run_of up_to
  run_of_up_to j = ap (λ l. run_in L l j) all

  pub run_absent : {j : ℕ} → L.n ≤ j → run_of L j ≡ 0
  run_absent {j} h = run_of_up_to j ∙ run_in_absent L 0 L.n (omega arith)

  run_at : {j : ℕ} → j < L.n → run_of L j ≡ run L j (from (suc j) (L.n - suc j))
  run_at {j} h =
      let e : 0 + L.n - suc j ≡ L.n - suc j = omega arith in
      run_of_up_to j ∙ run_in_from L 0 L.n (omega arith) (omega arith) ∙ ap (λ x. run L j (from (suc j) x)) e

  last_is : {j : ℕ} → suc j ≡ L.n → last_of L.sections ≡ j
  unfolding up_to
  last_is {j} e = ap last_of all ∙ ap (λ k. last_of (from 0 k)) (sym e) ∙ last_of_from 0 j ∙ omega arith

  pub run_last_zero : {j : ℕ} → suc j ≡ L.n → run_of L j ≡ 0
  unfolding from
  run_last_zero {j} e =
      let f : L.n - suc j ≡ 0 = omega arith in
      run_at (omega arith) ∙ ap (λ k. run L j (from (suc j) k)) f ∙ run_last L j

  pub divisor_at_last : {j : ℕ} → suc j ≡ L.n → divisor_at L j ≡ L.t
  unfolding divisor_at from
  divisor_at_last {j} e =
      let f : L.n - j ≡ 1 = omega arith in
      ap (λ k. divisor_from L (from j k)) f ∙ divisor_from_last L ok j (sym (last_is e))

  pub divisor_at_more : {j z : ℕ} → suc j < L.n → suc z ≡ L.n → divisor_at L j ≡ gcd (gap (L.shift j) (L.shift z)) (divisor_at L (suc j))
  unfolding divisor_at
  divisor_at_more {j} {z} h e =
      let f : L.n - j ≡ suc (L.n - suc j) = omega arith in
      ap (divisor_from L) (from_head j f) ∙ divisor_from_step L ok j (from (suc j) (L.n - suc j))
      ∙ ap (λ x. gcd (gap (L.shift j) (L.shift x)) (divisor_from L (from (suc j) (L.n - suc j)))) (last_is e)

  pub run_at_more : {j : ℕ} → suc j < L.n → run_of L j ≡ L.t - divisor_at L (suc j) + divisor_at L j
  unfolding divisor_at
  run_at_more {j} h =
      let f : L.n - suc j ≡ suc (L.n - suc (suc j)) = omega arith in
      let g : L.n - j ≡ suc (L.n - suc j) = omega arith in
      run_at (omega arith) ∙ ap (run L j) (from_head (suc j) f) ∙ run_more L j (suc j) (from (suc (suc j)) (L.n - suc (suc j)))
      ∙ ap₂ (λ x y. L.t - divisor_from L x + divisor_from L y) (sym (from_head (suc j) f)) (ap (λ l. j ∷ l) (sym (from_head (suc j) f)) ∙ sym (from_head j g))

  pub divisor_at_le : (j : ℕ) → divisor_at L j ≤ L.t
  unfolding divisor_at
  divisor_at_le j = divisor_from_le L ok (from j (L.n - j))

  -- the divisor falls
  pub divisor_at_falls : {j : ℕ} → suc j < L.n → divisor_at L j ≤ divisor_at L (suc j)
  unfolding divisor_at
  divisor_at_falls {j} h =
      let f : L.n - j ≡ suc (L.n - suc j) = omega arith in
      let d = from (suc j) (L.n - suc j) in
      rw (from_head j f) (le_of_dvd (pos_of_dvd_of_pos (divisor_from_base L ok d) ok.positive) (divisor_from_dvd L ok j d))

  pub run_le : (j : ℕ) → run_of L j ≤ L.t
  run_le j =
      by_cases (dec_lt (suc j) L.n)
      (λ h. omega (arith, run_at_more h, divisor_at_falls h, divisor_at_le (suc j)))
      (λ n. by_cases (ℕ_discrete (suc j) L.n) (λ e. omega (arith, run_last_zero e)) (λ m. omega (arith, run_absent {j = j} (omega arith))))

  pub divisor_at_pos : (j : ℕ) → 0 < divisor_at L j
  unfolding divisor_at
  divisor_at_pos j = pos_of_dvd_of_pos (divisor_from_base L ok (from j (L.n - j))) ok.positive

-- the loop that goes down from the last section has the runs from j on, and the divisor there
pub record Known (n t : ℕ) (p : List ℕ) (j g : ℕ) (r : List ℕ) : Type 0 where
  pub low : j < n
  pub long : length r ≡ 32
  pub divisor : g ≡ divisor_at (layout n t p) j
  pub exact : (i : ℕ) → j ≤ i → get_or r i 0 ≡ run_of (layout n t p) i

module _ (n t : ℕ) (p : List ℕ) (s : GoodPlan n t p) where
  pub known_start : {j : ℕ} → j ≡ n - 1 → Known n t p j t (replicate 32 0)
  unfolding layout
  known_start {j} e =
      let h = s.n_min in
      let f : suc j ≡ n = omega arith in
      let L = layout n t p in
      let ok = plan_valid s in
      record {
        low = omega arith;
        long = length-replicate {A = ℕ} 32 0;
        divisor = sym (divisor_at_last L ok refl f);
        exact = λ i l. zeros_at 32 i ∙ sym (by_cases (ℕ_discrete (suc i) n) (λ q. run_last_zero L ok refl q) (λ q. run_absent L ok refl {j = i} (omega arith)));
      }

  pub known_more : {j g h v : ℕ} {r r' : List ℕ} → Known n t p j g r → 0 < j → h ≡ gcd (gap (get_or p (j - 1) 0) (get_or p (n - 1) 0)) g
      → v ≡ t - g + h → r' ≡ set r (j - 1) v → Known n t p (j - 1) h r'
  unfolding layout
  known_more {j} {g} {h} {v} {r} k pos hh hv hr =
      let L = layout n t p in
      let ok = plan_valid s in
      let e : suc (j - 1) ≡ j = omega arith in
      let l : suc (j - 1) < n = omega (arith, k.low) in
      let f : suc (n - 1) ≡ n = omega arith in
      let d : g ≡ divisor_at L (suc (j - 1)) = k.divisor ∙ ap (divisor_at L) (sym e) in
      let q : h ≡ divisor_at L (j - 1) = hh ∙ ap (gcd (gap (get_or p (j - 1) 0) (get_or p (n - 1) 0))) d ∙ sym (divisor_at_more L ok refl l f) in
      let w : v ≡ run_of L (j - 1) = hv ∙ ap₂ (λ x y. t - x + y) d q ∙ sym (run_at_more L ok refl l) in
      rw hr (record {
        low = omega arith;
        long = length-set r (j - 1) v ∙ k.long;
        divisor = q;
        exact = λ i m. by_cases (ℕ_discrete i (j - 1))
            (λ a. ap (λ x. get_or (set r (j - 1) v) x 0) a ∙ get_or-set_same r (j - 1) v 0 (omega (arith, k.long, s.n_max, k.low)) ∙ w ∙ ap (run_of L) (sym a))
            (λ a. get_or-set_other r (j - 1) i v 0 a ∙ k.exact i (omega arith));
      })

  pub known_fits : {j g : ℕ} {r : List ℕ} (x : ℕ) → Known n t p j g r → (g ≤ t) × (gcd x g ≤ g)
  unfolding layout
  known_fits {j} x k =
      let L = layout n t p in
      let ok = plan_valid s in
      (rw k.divisor (divisor_at_le L ok refl j), gcd_le x (rw k.divisor (divisor_at_pos L ok refl j)))

  pub known_end : {j g : ℕ} {r : List ℕ} → Known n t p j g r → j ≡ 0 → RunsOf n t (layout n t p) r
  unfolding layout
  known_end k e = record {
    n_is = refl;
    t_is = refl;
    valid = plan_valid s;
    all = refl;
    some = omega (arith, k.low);
    small = s.places_max;
    long = omega (arith, k.long, s.n_max);
    exact = λ i. k.exact i (omega arith);
  }
