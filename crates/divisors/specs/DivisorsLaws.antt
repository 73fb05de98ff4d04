-- The greatest divisor over the pairs of a relation: its turns over a row, over all pairs and over the neighbours, and the figure that it gives.
-- Main results: pairs_all, near_all, figure_least.
use Rattle.std.specs.Prelude.{◌≡◌, refl, ◌⊎◌, List, [], Some, None, ℕ, ◌+◌, ◌-◌, ◌*◌, ◌/◌, ◌≤◌, ◌<◌, max, get_or}
use Rattle.std.proofs.Common.{◌∙◌, ap₂, subst, inl, inr, ⊎_elim, le_trans, le-div_iff_mul-le, div-mul-le_self, mul-le-mul_left}
use Rattle.std.proofs.Math.Path.{ap, sym}
use Rattle.std.proofs.Math.Logic.{by_cases}
use native.Mathlib.Omega.{arith}
use Rattle.std.proofs.Math.Decide.{dec_lt, ℕ_discrete}
use Rattle.math.specs.Gcd.{gcd, gap}
use Rattle.math.proofs.GcdLaws.{gcd_pos, gcd_le, gap_comm}
use Rattle.math.specs.MembersLaws.{∈_up_to, up_to_∈}
use Rattle.plan.specs.Layout.{layout}
use Rattle.code.specs.Figures.{Pair, Neighbours, pair_number, Capability, Least}
use Rattle.divisors.specs.Divisors.{sharing, Shared, Most, Row, Ordered, Near, Passed, NeighbourOf, Greater}

sharing_comm : (t : ℕ) (s : List ℕ) (i j : ℕ) → sharing t s i j ≡ sharing t s j i
unfolding sharing
sharing_comm t s i j = ap (λ (x : ℕ). gcd x t) (gap_comm (get_or s i 0) (get_or s j 0))

sharing_pos : {t : ℕ} (s : List ℕ) (i j : ℕ) → 0 < t → 0 < sharing t s i j
unfolding sharing
sharing_pos s i j h = gcd_pos _ h

sharing_le : {t : ℕ} (s : List ℕ) (i j : ℕ) → 0 < t → sharing t s i j ≤ t
unfolding sharing
sharing_le s i j h = gcd_le _ h

-- the divisor as the code comes to it
pub share_is : (t : ℕ) (s : List ℕ) (i j : ℕ) {x y z g : ℕ} → x ≡ get_or s i 0 → y ≡ get_or s j 0 → z ≡ gap x y → g ≡ gcd z t → g ≡ sharing t s i j
unfolding sharing
share_is t s i j hx hy hz hg = hg ∙ ap (λ (d : ℕ). gcd d t) (hz ∙ ap₂ gap hx hy)

pub figure_fits : {t g : ℕ} → 0 < g → g ≤ t → 1 ≤ 2 * t / g
figure_fits h l = (le-div_iff_mul-le h).1 (omega arith)

-- the greater of two is `max`
pub greater_max : (a b : ℕ) → Greater a b (max a b)
greater_max a b = record { first = omega arith; second = omega arith; either = by_cases (dec_lt a b) (λ h. inr (omega arith)) (λ h. inl (omega arith)) }

module _ {t : ℕ} {s : List ℕ} where
  -- no pair, and the pairs of two relations together
  most_none : {R : ℕ → ℕ → Type 0} → ((i j : ℕ) → ¬ (R i j)) → Most t s R 0
  most_none none = record { all = λ i j r. absurd (none i j r); some = λ h. absurd (omega arith) }

  most_same : {P R : ℕ → ℕ → Type 0} {g : ℕ} → Most t s P g → ((i j : ℕ) → R i j → P i j) → ((i j : ℕ) → P i j → R i j) → Most t s R g
  most_same m back forth =
      record {
        all = λ i j r. m.all i j (back i j r);
        some = λ h. let x = m.some h in record { i = x.i; j = x.j; related = forth x.i x.j x.related; value = x.value };
      }

  most_one : {R : ℕ → ℕ → Type 0} (i j : ℕ) {g : ℕ} → g ≡ sharing t s i j → R i j → ((k l : ℕ) → R k l → (k ≡ i) × (l ≡ j)) → Most t s R g
  most_one i j {g} e r only =
      record {
        all = λ k l q. let o = only k l q in let w : sharing t s k l ≡ g = cc in omega arith;
        some = λ h. record { i = i; j = j; related = r; value = e };
      }

  most_more : {P Q R : ℕ → ℕ → Type 0} {a b g : ℕ} → Most t s P a → Most t s Q b → Greater a b g
      → ((i j : ℕ) → R i j → P i j ⊎ Q i j) → ((i j : ℕ) → P i j → R i j) → ((i j : ℕ) → Q i j → R i j) → Most t s R g
  most_more {P} {Q} {R} {a} {b} {g} m n r split left right =
      record {
        all = λ i j x. ⊎_elim (λ p. le_trans (m.all i j p) r.first) (λ q. le_trans (n.all i j q) r.second) (split i j x);
        some = λ h. ⊎_elim (λ e. widen left e (m.some (omega arith))) (λ e. widen right e (n.some (omega arith))) r.either;
      }
    where
      widen : {S : ℕ → ℕ → Type 0} {x : ℕ} → ((i j : ℕ) → S i j → R i j) → g ≡ x → Shared t s S x → Shared t s R g
      widen f e y = record { i = y.i; j = y.j; related = f y.i y.j y.related; value = e ∙ y.value }

  pub most_le : {R : ℕ → ℕ → Type 0} {g : ℕ} → Most t s R g → 0 < t → g ≤ t
  most_le {g = g} m h =
      by_cases (dec_lt 0 g) (λ p. let x = m.some p in let l = sharing_le s x.i x.j h in let e = x.value in omega arith)
      (λ p. omega arith)

  pub most_pos : {R : ℕ → ℕ → Type 0} {g i j : ℕ} → Most t s R g → 0 < t → R i j → 0 < g
  most_pos {i = i} {j = j} m h r = let l = m.all i j r in let p = sharing_pos s i j h in omega arith

  -- a row, one turn at a time
  pub row_start : {i : ℕ} → Most t s (Row i 0) 0
  row_start = most_none (λ k l q. omega arith)

  pub row_more : {i j g x r : ℕ} → Most t s (Row i j) g → x ≡ sharing t s j i → Greater g x r → Most t s (Row i (j + 1)) r
  row_more {i} {j} m e r =
      most_more m (most_one {R = λ k l. (k ≡ j) × (l ≡ i)} j i e (refl, refl) (λ k l q. q)) r
      (λ k l q. by_cases (ℕ_discrete k j) (λ same. inr (same, q.1)) (λ other. inl (omega arith, q.1)))
      (λ k l q. (omega arith, q.1)) (λ k l q. (omega arith, q.1))

  pub row_end : {i j g : ℕ} → i ≤ j → j ≤ i → Most t s (Row i j) g → Most t s (Row i i) g
  row_end {i} {j} {g} a b m = let e : j ≡ i = omega arith in subst (λ (x : ℕ). Most t s (Row i x) g) e m

  -- all pairs, one row at a time
  pub pairs_start : Most t s (Ordered 0) 0
  pairs_start = most_none (λ k l q. omega arith)

  pub pairs_end : {n i g : ℕ} → n ≤ i → i ≤ n → Most t s (Ordered i) g → Most t s (Ordered n) g
  pairs_end {n} {i} {g} a b m = let e : i ≡ n = omega arith in subst (λ (x : ℕ). Most t s (Ordered x) g) e m

  pub pairs_more : {i g x r : ℕ} → Most t s (Ordered i) g → Most t s (Row i i) x → Greater g x r → Most t s (Ordered (i + 1)) r
  pairs_more {i} m n r =
      most_more m n r (λ k l q. by_cases (ℕ_discrete l i) (λ same. inr (omega arith, same)) (λ other. inl (q.0, omega arith)))
      (λ k l q. (q.0, omega arith)) (λ k l q. (omega arith, omega arith))

-- the neighbours, one section at a time
module _ (n : ℕ) {t : ℕ} {s : List ℕ} where
  pub near_none : {j : ℕ} → NeighbourOf n j None → Most t s (Near n t s j) 0
  near_none {j} o =
      most_none
      (λ k l q. let x = o.only t s l (subst (λ (y : ℕ). Neighbours (layout n t s) y l) q.0 q.1) in cc)

  pub near_one : {j r g : ℕ} → NeighbourOf n j (Some r) → g ≡ sharing t s j r → Most t s (Near n t s j) g
  near_one {j} {r} o e =
      most_one j r e (refl, o.is t s r refl)
      (λ k l q. (q.0, let x = o.only t s l (subst (λ (y : ℕ). Neighbours (layout n t s) y l) q.0 q.1) in cc))

  pub near_start : Most t s (Passed n t s 0) 0
  near_start = most_none (λ k l q. omega arith)

  pub near_more : {j g x r : ℕ} → Most t s (Passed n t s j) g → Most t s (Near n t s j) x → Greater g x r → Most t s (Passed n t s (j + 1)) r
  near_more {j} m o r =
      most_more m o r (λ k l q. by_cases (ℕ_discrete k j) (λ same. inr (same, q.1)) (λ other. inl (omega arith, q.1)))
      (λ k l q. (omega arith, q.1)) (λ k l q. (omega arith, q.1))

  pub near_all : {j g : ℕ} → n ≤ j → Most t s (Passed n t s j) g → Most t s (Neighbours (layout n t s)) g
  unfolding layout
  near_all {j} h m = most_same m (λ k l q. (let b = up_to_∈ n q.pair.first in omega arith, q)) (λ k l q. q.1)

  -- each pair of sections once, and each in both orders
  pub pairs_all : {g : ℕ} → Most t s (Ordered n) g → Most t s (Pair (layout n t s)) g
  unfolding layout
  pairs_all {g} m =
      record {
        all = both;
        some = λ h. let x = m.some h in record { i = x.i; j = x.j; related = pair x.i x.j x.related; value = x.value };
      }
    where
      pair : (k l : ℕ) → Ordered n k l → Pair (layout n t s) k l
      pair k l q = record { first = ∈_up_to (omega arith); second = ∈_up_to q.1; differ = omega arith }

      both : (k l : ℕ) → Pair (layout n t s) k l → sharing t s k l ≤ g
      both k l q =
          let a = up_to_∈ n q.first in
          let b = up_to_∈ n q.second in
          let d = q.differ in
          by_cases (dec_lt k l) (λ lt. m.all k l (lt, b))
          (λ ge. let e = sharing_comm t s k l in let y = m.all l k (omega arith, a) in omega arith)

  -- the figure of the greatest divisor
  pub figure_least : {R : ℕ → ℕ → Type 0} {g i j : ℕ} → 0 < t → Most t s R g → R i j → Least (Capability (layout n t s) R) (2 * t / g - 1)
  unfolding layout pair_number sharing
  figure_least {R} {g} h m r =
      let x = m.some (most_pos m h r) in
      record {
        has = record { i = x.i; j = x.j; related = x.related; value = ap (λ (y : ℕ). 2 * t / y - 1) x.value };
        least = λ y c.
            let l = less (sharing t s c.i c.j) (m.all c.i c.j c.related) (sharing_pos s c.i c.j h) in
            let e = c.value in
            omega arith;
      }
    where
      less : (y : ℕ) → y ≤ g → 0 < y → 2 * t / g ≤ 2 * t / y
      less y l p = (le-div_iff_mul-le p).1 (le_trans (mul-le-mul_left (2 * t / g) l) (div-mul-le_self (2 * t) g))

-- the neighbour of section j: the one after it
pub next_neighbour : {n j : ℕ} → j + 1 < n → NeighbourOf n j (Some (j + 1))
unfolding layout
next_neighbour {n} {j} h =
    record {
      is = λ t s k e. let q : j + 1 ≡ k = cc in
          record { pair = record { first = ∈_up_to (omega arith); second = ∈_up_to (omega arith); differ = omega arith }; next = inl (sym q) };
      only = λ t s k q. ap Some (sym (⊎_elim (λ e. e) (λ e. absurd (omega (arith, e.1))) q.next));
    }

-- of the last of three or more, the first
pub around_neighbour : {n j : ℕ} → j < n → n ≤ j + 1 → 3 ≤ n → NeighbourOf n j (Some 0)
unfolding layout
around_neighbour {n} {j} h l m =
    record {
      is = λ t s k e. let q : ◌≡◌ {A = ℕ} 0 k = cc in
          record { pair = record { first = ∈_up_to h; second = ∈_up_to (omega arith); differ = omega arith }; next = inr (m, omega arith, sym q) };
      only = λ t s k q. ap Some (sym (⊎_elim (λ e. let b = up_to_∈ n q.pair.second in absurd (omega arith)) (λ e. e.2) q.next));
    }

-- of the last of fewer, none
pub no_neighbour : {n j : ℕ} → n ≤ j + 1 → n < 3 → NeighbourOf n j None
unfolding layout
no_neighbour {n} {j} l m =
    record {
      is = λ t s k e. cc;
      only = λ t s k q. absurd (⊎_elim (λ e. let b = up_to_∈ n q.pair.second in omega arith) (λ e. omega (arith, e.0)) q.next);
    }

-- a neighbour is one of the sections
pub neighbour_below : {n j k : ℕ} → NeighbourOf n j (Some k) → k < n
unfolding layout
neighbour_below {n} {k = k} o = let b = up_to_∈ n (o.is 0 [] k refl).pair.second in omega arith
