-- `gcd` and `gcd_all` are what `IsGcd` and `IsGcdAll` say: main results gcd_is, gcd_all_is.
use Rattle.std.specs.Prelude.{◌≡◌, refl, List, [], ◌∷◌, ℕ, zero, suc, ◌-◌, ◌%◌, ◌<◌}
use Rattle.std.proofs.Common.{sym, ap, subst, arith, mod-lt}
use mathlib.Core.List.Memᴰ
use Rattle.std.specs.Int.{◌∣◌}
use Rattle.std.proofs.Math.Nat.{zero-mod, dvd-mod_iff, dvd_refl, dvd-zero, dvd_trans}
use Rattle.math.specs.Members.{◌∈◌}
use Rattle.math.specs.Gcd.{IsGcd, IsGcdAll, euclid, gcd, gcd_all}

-- Euclid's step, backwards
pub step_is : (a b g : ℕ) → IsGcd b (a % b) g → IsGcd a b g
step_is a b g h =
    record {
      left = (dvd-mod_iff g h.left).0 h.right;
      right = h.left;
      greatest = λ d p q. h.greatest d q ((dvd-mod_iff d q).1 p);
    }

euclid_is : (fuel a b : ℕ) → b < fuel → IsGcd a b (euclid fuel a b)
unfolding euclid
euclid_is zero a b h = absurd (omega arith)
euclid_is (suc fuel) a zero h = record { left = dvd_refl a; right = dvd-zero a; greatest = λ d p q. p }
euclid_is (suc fuel) a (suc b) h =
    step_is a (suc b) _ (euclid_is fuel (suc b) (a % suc b) (let r : a % suc b < suc b = mod-lt a (omega arith) in omega arith))

-- it divides both, and every common divisor divides it
pub gcd_is : (a b : ℕ) → IsGcd a b (gcd a b)
unfolding gcd
gcd_is a b = euclid_is (suc b) a b (omega arith)

-- "The divisor of 0 and t is t"
pub gcd_zero_left : (t : ℕ) → gcd 0 t ≡ t
unfolding gcd
gcd_zero_left zero = refl
gcd_zero_left (suc t) = ap (euclid (suc t) (suc t)) (zero-mod (suc t))

pub gcd_all_is : (t : ℕ) (l : List ℕ) → IsGcdAll t l (gcd_all t l)
unfolding gcd_all
gcd_all_is t [] = record { base = dvd_refl t; each = λ x m. absurd (Memᴰ.not-nil m); greatest = λ d h all. h }
gcd_all_is t (y ∷ ys) =
    let g = gcd_all_is t ys in
    let both = gcd_is y (gcd_all t ys) in
    record {
      base = dvd_trans (gcd y (gcd_all t ys)) both.right g.base;
      each = each_of g both;
      greatest = λ d h all. both.greatest d (all y (Memᴰ.head refl)) (g.greatest d h (λ x m. all x (Memᴰ.tail m)));
    }
  where
    each_of : IsGcdAll t ys (gcd_all t ys) → IsGcd y (gcd_all t ys) (gcd y (gcd_all t ys)) → (x : ℕ) → x ∈ (y ∷ ys) → gcd y (gcd_all t ys) ∣ x
    each_of g both x (Memᴰ.head e) = subst (λ z. gcd y (gcd_all t ys) ∣ z) (sym e) both.left
    each_of g both x (Memᴰ.tail m) = dvd_trans (gcd y (gcd_all t ys)) both.right (g.each x m)
