-- The laws of a plan's shifts: the array one shift longer, its length and its first entries; the test of each shift.
use Rattle.std.specs.Prelude.{◌≡◌, refl, true, false, ◌&&◌, ltb, take, drop, set, replicate, reverse, fold, Bool}
use Rattle.std.proofs.Math.Path.{sym, ap, ap₂}
use Rattle.std.proofs.Common.{◌∙◌, subst, pow-suc, add-one, length-append, drop_of_length-le, drop-cons, take_at, ltb-true, lt-ltb, le-ltb}
use mathlib.Core.List.{List, [], ◌∷◌, ◌++◌, map, map-append}
use Prim.Native.Nat.{ℕ, zero, suc, ◌+◌, ◌-◌, ◌*◌, ◌%◌, ◌^◌, ◌<◌, ◌≤◌}
use native.Mathlib.Omega.{arith}
use Rattle.std.proofs.Math.Nat.{mod-mod}
use Rattle.std.proofs.Math.ListN.{length, get_or}
use Rattle.std.proofs.lemmas.List.{length-replicate, length-map, set_at, drop-replicate, reverse-append}
use Rattle.std.proofs.Math.Seq.{append_snoc}
use Rattle.std.proofs.lemmas.List.Sums.{fold_push}
use Rattle.std.specs.List.{list_all}
use Rattle.math.specs.Gcd.{gcd, gcd_all, gap}
use Rattle.math.proofs.Residues.{mod_mul_congr}
use Rattle.math.specs.Members.{up_to}
use Rattle.math.specs.MembersLaws.{up_to_suc, length_up_to}
use Rattle.bounds.specs.Bounds.{all_below}
use Rattle.math.specs.Tests.{and_left, and_right}
use Rattle.shifts.specs.Shifts.{padded, gaps}

pub padded_none : replicate 32 0 ≡ padded []
unfolding padded
padded_none = refl

-- the array of zeros is that of n shifts 0
zeros_more : (n k : ℕ) → n ≤ k → replicate {A = ℕ} k 0 ≡ replicate n 0 ++ replicate (k - n) 0
zeros_more zero k h = let e : k - 0 ≡ k = omega arith in rw e
zeros_more (suc n) zero h = absurd (omega arith)
zeros_more (suc n) (suc k) h = let e : suc k - suc n ≡ k - n = omega arith in rw e (ap (λ l. 0 ∷ l) (zeros_more n k (omega arith)))

pub padded_zeros : (n : ℕ) → n ≤ 32 → replicate 32 0 ≡ padded (replicate n 0)
unfolding padded
padded_zeros n h = zeros_more n 32 h ∙ ap (λ x. replicate n 0 ++ replicate (32 - x) 0) (sym (length-replicate n 0))

pub length_padded : (xs : List ℕ) → length xs ≤ 32 → length (padded xs) ≡ 32
unfolding padded
length_padded xs h = simp (length-append, length-replicate) (omega arith)

pub take_padded : (xs : List ℕ) (n : ℕ) → length xs ≡ n → take n (padded xs) ≡ xs
unfolding padded
take_padded xs n e = take_at xs _ n e

-- a store just past the shifts makes the array of the list one longer
pub padded_more : (xs ys : List ℕ) (i v : ℕ) → length xs ≡ i → i < 32 → ys ≡ xs ++ (v ∷ []) → set (padded xs) i v ≡ padded ys
unfolding padded
padded_more xs ys i v e h g =
    subst (λ (l : List ℕ). set (xs ++ replicate (32 - length xs) 0) i v ≡ l ++ replicate (32 - length l) 0) (sym g)
    (let s : 32 - length xs ≡ suc (31 - i) = omega arith in
    let z : 32 - length (xs ++ (v ∷ [])) ≡ 31 - i = simp length-append (omega arith) in
    simp (s, z, append_snoc) (set_at xs 0 _ v i e))

-- the shifts copied to the front of the array of zeros
pub copied_whole : (s : List ℕ) {front : List ℕ} → front ≡ s → length s ≤ 32 → front ++ drop (length s) (replicate 32 0) ≡ padded s
unfolding padded
copied_whole s e h = ap₂ ◌++◌ e (drop-replicate (length s) 32 0)

-- one turn of each loop that fills an array
pub counting_more : {a : List ℕ} (i : ℕ) → a ≡ padded (up_to i) → i < 32 → set a i i ≡ padded (up_to (i + 1))
counting_more i e h =
    ap (λ (l : List ℕ). set l i i) e
    ∙ padded_more (up_to i) (up_to (i + 1)) i i (length_up_to i) h (ap up_to (add-one i) ∙ up_to_suc i)

pub mapped_more : (f : ℕ → ℕ) {a : List ℕ} (i v : ℕ) → a ≡ padded (map f (up_to i)) → v ≡ f i → i < 32 → set a i v ≡ padded (map f (up_to (i + 1)))
mapped_more f i v e g h =
    ap (λ (l : List ℕ). set l i v) e
    ∙ padded_more (map f (up_to i)) (map f (up_to (i + 1))) i v (length-map (up_to i) f ∙ length_up_to i) h
    (ap (λ (l : List ℕ). map f l) (ap up_to (add-one i) ∙ up_to_suc i) ∙ map-append f (up_to i) (i ∷ []) ∙ ap (λ (x : ℕ). map f (up_to i) ++ (x ∷ [])) (sym g))

-- the next power, of the residues of the last one and of q
pub power_more : (q t i x : ℕ) → x ≡ q ^ i % t → x * (q % t) % t ≡ q ^ (i + 1) % t
power_more q t i x e =
    ap (λ (y : ℕ). y * (q % t) % t) e
    ∙ mod_mul_congr t (q ^ i % t) (q ^ i) (q % t) q (mod-mod (q ^ i) t) (mod-mod q t)
    ∙ ap (λ (y : ℕ). y % t) (sym (pow-suc q i) ∙ ap (λ (k : ℕ). q ^ k) (sym (add-one i)))

-- the test of every shift
pub list_all_below : (t : ℕ) (s : List ℕ) → list_all (λ p. ltb p t) s ≡ all_below t s
unfolding all_below
list_all_below t [] = refl
list_all_below t (p ∷ ps) = ap (λ (b : Bool). ltb p t && b) (list_all_below t ps)

-- the test from i on, and the three ways of a turn: a shift that is not below, one that is, none left
all_below_at : (t : ℕ) (s : List ℕ) (i : ℕ) → i < length s → all_below t (drop i s) ≡ (ltb (get_or s i 0) t && all_below t (drop (i + 1) s))
unfolding all_below
all_below_at t s i h = rw (add-one, drop-cons s i 0 h)

module _ (t : ℕ) (s : List ℕ) (i : ℕ) (e : all_below t s ≡ all_below t (drop i s)) where
  pub test_stops : {v : ℕ} → v ≡ get_or s i 0 → i < length s → t ≤ v → false ≡ all_below t s
  test_stops g h stop = sym (e ∙ all_below_at t s i h ∙ simp (le-ltb (get_or s i 0) t (omega arith)))

  pub test_goes_on : {v : ℕ} → v ≡ get_or s i 0 → i < length s → v < t → all_below t s ≡ all_below t (drop (i + 1) s)
  test_goes_on g h on = e ∙ all_below_at t s i h ∙ simp (lt-ltb (get_or s i 0) t (omega arith))

  pub test_ends : length s ≤ i → true ≡ all_below t s
  unfolding all_below
  test_ends h = sym (e ∙ ap (λ (l : List ℕ). all_below t l) (drop_of_length-le s h))

-- what the test says of each shift
pub all_below_below : (t : ℕ) (s : List ℕ) → all_below t s ≡ true → (j : ℕ) → j < length s → get_or s j 0 < t
unfolding all_below
all_below_below t [] e j h = absurd (omega arith)
all_below_below t (p ∷ ps) e zero h = ltb-true p t (and_left (ltb p t) (all_below t ps) e)
all_below_below t (p ∷ ps) e (suc j) h = all_below_below t ps (and_right (ltb p t) (all_below t ps) e) j (omega arith)

pub below_all_below : (t : ℕ) (s : List ℕ) → ((j : ℕ) → j < length s → get_or s j 0 < t) → all_below t s ≡ true
unfolding all_below
below_all_below t [] f = refl
below_all_below t (p ∷ ps) f = simp (lt-ltb p t (f 0 (omega arith)), below_all_below t ps (λ j h. f (suc j) (omega arith)))

-- the divisor of t and the differences, taken from the last shift to the first
fold_gaps : (t first : ℕ) (s : List ℕ) → fold (λ g p. gcd ((p - first) + (first - p)) g) t (reverse s) ≡ gcd_all t (map (λ p. gap p first) s)
unfolding gcd_all gap
fold_gaps t first [] = refl
fold_gaps t first (p ∷ ps) =
    ap (fold (λ g p. gcd ((p - first) + (first - p)) g) t) (reverse-append (p ∷ []) ps)
    ∙ fold_push (λ g p. gcd ((p - first) + (first - p)) g) t (reverse ps) p
    ∙ ap (gcd ((p - first) + (first - p))) (fold_gaps t first ps)

pub divisor_fold : (t first : ℕ) (s : List ℕ) → first ≡ get_or s 0 0 → fold (λ g p. gcd ((p - first) + (first - p)) g) t (reverse s) ≡ gcd_all t (gaps s)
unfolding gaps
divisor_fold t first s e = fold_gaps t first s ∙ ap (λ (x : ℕ). gcd_all t (map (λ p. gap p x) s)) e
