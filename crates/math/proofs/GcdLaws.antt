-- The laws of the greatest common divisor: how `gcd` changes with its arguments, and the same of `gcd_all`. That they are what
-- their names say (`gcd_is`, `gcd_all_is`) stands beside their definitions, in Gcd.
-- `gcd_closed` is the one to reach for: what holds of a and b and is closed under subtraction holds of gcd a b.
-- Last, the multiples of e modulo t: the first t / gcd e t of them are distinct, and then they come round.
use Rattle.std.specs.Prelude.{◌≡◌, refl}
use Rattle.std.proofs.Common.{sym, ◌∙◌, ap, subst, arith, mul-pos}
use Rattle.std.proofs.Math.Logic.{by_cases}
use mathlib.Core.List.Memᴰ
use mathlib.Core.List.{List, [], ◌∷◌, ◌++◌}
use Prim.Native.Nat.{ℕ, zero, suc, ◌+◌, ◌-◌, ◌*◌, ◌/◌, ◌%◌, ◌∣◌, ◌≤◌, ◌<◌}
use Rattle.std.proofs.Math.Decide.{dec_le}
use Rattle.std.proofs.Math.Nat.{mod-add-div', dvd_refl, dvd-zero, dvd_antisymm, dvd-add, dvd-sub, dvd-sub_iff_right, dvd-add_iff_left, pos_of_dvd_of_pos, le_of_dvd, dvd_of_mod-eq-zero, div-mul_cancel, mul-mod_right, mul-sub, zero-mod, dvd-mul_left}
use Rattle.math.specs.Gcd.{IsGcd, euclid, gcd, gcd_all, gap}
use Rattle.math.proofs.Gcd.{gcd_all_is, step_is}
pub use Rattle.math.proofs.Gcd.{gcd_is, gcd_zero_left}
use Rattle.math.specs.Members.{◌∈◌}
use Rattle.math.proofs.Residues.{mod_cancel_left, below_multiples}

pub gcd_unique : {a b g h : ℕ} → IsGcd a b g → IsGcd a b h → g ≡ h
gcd_unique {a} {b} {g} {h} p q = dvd_antisymm (q.greatest g p.left p.right) (p.greatest h q.left q.right)

-- any number with the three properties is the one computed
pub gcd_eq : {a b g : ℕ} → IsGcd a b g → gcd a b ≡ g
gcd_eq {a} {b} p = gcd_unique (gcd_is a b) p

pub gcd_dvd_left : (a b : ℕ) → gcd a b ∣ a
gcd_dvd_left a b = (gcd_is a b).left

pub gcd_dvd_right : (a b : ℕ) → gcd a b ∣ b
gcd_dvd_right a b = (gcd_is a b).right

pub gcd_greatest : (d : ℕ) {a b : ℕ} → d ∣ a → d ∣ b → d ∣ gcd a b
gcd_greatest d {a} {b} p q = (gcd_is a b).greatest d p q

-- the same divisor by way of the same common divisors
pub gcd_ext : (a b a' b' : ℕ) → ((d : ℕ) → d ∣ a → d ∣ b → (d ∣ a') × (d ∣ b')) → ((d : ℕ) → d ∣ a' → d ∣ b' → (d ∣ a) × (d ∣ b)) → gcd a b ≡ gcd a' b'
gcd_ext a b a' b' f g = dvd_antisymm (half a b a' b' f) (half a' b' a b g)
  where
    half : (x y x' y' : ℕ) → ((d : ℕ) → d ∣ x → d ∣ y → (d ∣ x') × (d ∣ y')) → gcd x y ∣ gcd x' y'
    half x y x' y' h = let p = h (gcd x y) (gcd_dvd_left x y) (gcd_dvd_right x y) in gcd_greatest (gcd x y) p.0 p.1

pub gcd_comm : (a b : ℕ) → gcd a b ≡ gcd b a
gcd_comm a b = gcd_ext a b b a (λ d p q. (q, p)) (λ d p q. (q, p))

-- where d divides b it is their greatest common divisor
pub gcd_dvd : (d : ℕ) {b : ℕ} → d ∣ b → gcd d b ≡ d
gcd_dvd d {b} h = gcd_eq (record { left = dvd_refl d; right = h; greatest = λ c p q. p })

pub gcd_zero_right : (t : ℕ) → gcd t 0 ≡ t
gcd_zero_right t = gcd_dvd t (dvd-zero t)

pub gcd_self : (t : ℕ) → gcd t t ≡ t
gcd_self t = gcd_dvd t (dvd_refl t)

-- Euclid's step
pub gcd_step : (a b : ℕ) → gcd a b ≡ gcd b (a % b)
gcd_step a b = gcd_eq (step_is a b _ (gcd_is b (a % b)))

pub gcd_pos : (a : ℕ) {b : ℕ} → 0 < b → 0 < gcd a b
gcd_pos a {b} h = pos_of_dvd_of_pos (gcd_dvd_right a b) h

pub gcd_pos_left : {a : ℕ} (b : ℕ) → 0 < a → 0 < gcd a b
gcd_pos_left {a} b h = pos_of_dvd_of_pos (gcd_dvd_left a b) h

pub gcd_le : (a : ℕ) {b : ℕ} → 0 < b → gcd a b ≤ b
gcd_le a {b} h = le_of_dvd h (gcd_dvd_right a b)

pub gcd_mod : (a t : ℕ) → gcd (a % t) t ≡ gcd a t
gcd_mod a t = gcd_comm (a % t) t ∙ sym (gcd_step a t)

pub gcd_shift : (a t : ℕ) → gcd (a + t) t ≡ gcd a t
gcd_shift a t = gcd_ext (a + t) t a t (λ d p q. ((dvd-add_iff_left d q).1 p, q)) (λ d p q. (dvd-add d p q, q))

-- the complement to t has the same divisor with t
pub gcd_complement : {a t : ℕ} → a ≤ t → gcd (t - a) t ≡ gcd a t
gcd_complement {a} {t} h =
    gcd_ext (t - a) t a t (λ d p q. ((dvd-sub_iff_right d h q).0 p, q)) (λ d p q. ((dvd-sub_iff_right d h q).1 p, q))

module _ (P : ℕ → Type 0) (sub : (x y : ℕ) → P x → P y → y ≤ x → P (x - y)) where
  rest_closed : (k r b : ℕ) → P b → P (r + k * b) → P r
  rest_closed zero r b pb h = subst P (omega arith) h
  rest_closed (suc k) r b pb h =
      let e : r + suc k * b - b ≡ r + k * b = omega arith in
      rest_closed k r b pb (subst P e (sub (r + suc k * b) b h pb (omega arith)))

  euclid_closed : (fuel a b : ℕ) → P a → P b → P (euclid fuel a b)
  unfolding euclid
  euclid_closed zero a b pa pb = pa
  euclid_closed (suc fuel) a zero pa pb = pa
  euclid_closed (suc fuel) a (suc b) pa pb =
      euclid_closed fuel (suc b) (a % suc b) pb (rest_closed (a / suc b) (a % suc b) (suc b) pb (subst P (sym (mod-add-div' a (suc b))) pa))

  -- what holds of a and b and is closed under subtraction holds of their greatest common divisor
  pub gcd_closed : (a b : ℕ) → P a → P b → P (gcd a b)
  unfolding gcd
  gcd_closed a b pa pb = euclid_closed (suc b) a b pa pb

  pub gcd_all_closed : (t : ℕ) (l : List ℕ) → P t → ((x : ℕ) → x ∈ l → P x) → P (gcd_all t l)
  unfolding gcd_all
  gcd_all_closed t [] pt all = pt
  gcd_all_closed t (x ∷ xs) pt all =
      gcd_closed x (gcd_all t xs) (all x (Memᴰ.head refl)) (gcd_all_closed t xs pt (λ y m. all y (Memᴰ.tail m)))

pub gap_comm : (a b : ℕ) → gap a b ≡ gap b a
unfolding gap
gap_comm a b = omega arith

pub gap_self : (a : ℕ) → gap a a ≡ 0
unfolding gap
gap_self a = omega arith

pub gap_zero : (a b : ℕ) → gap a b ≡ 0 → a ≡ b
unfolding gap
gap_zero a b h = omega arith

pub gap_of_le : {a b : ℕ} → b ≤ a → gap a b ≡ a - b
unfolding gap
gap_of_le h = omega arith

-- the sign of a difference does not count
pub gcd_gap : (a : ℕ) {b t : ℕ} → b ≤ t → gcd (gap a b) t ≡ gcd (t + a - b) t
gcd_gap a {b} {t} h = by_cases (dec_le b a) above below
  where
    above : b ≤ a → gcd (gap a b) t ≡ gcd (t + a - b) t
    above l = let e : t + a - b ≡ a - b + t = omega arith in rw (e, gap_of_le l) (sym (gcd_shift (a - b) t))

    below : ¬ (b ≤ a) → gcd (gap a b) t ≡ gcd (t + a - b) t
    below n =
        let l : a ≤ b = omega arith in
        let e : t + a - b ≡ t - (b - a) = omega arith in
        let m : b - a ≤ t = omega arith in
        rw (e, gap_comm a b, gap_of_le l) (sym (gcd_complement m))

pub gcd_all_dvd_base : (t : ℕ) (l : List ℕ) → gcd_all t l ∣ t
gcd_all_dvd_base t l = (gcd_all_is t l).base

pub gcd_all_dvd : (t : ℕ) {x : ℕ} {l : List ℕ} → x ∈ l → gcd_all t l ∣ x
gcd_all_dvd t {x} {l} m = (gcd_all_is t l).each x m

pub gcd_all_greatest : (d : ℕ) {t : ℕ} (l : List ℕ) → d ∣ t → ((x : ℕ) → x ∈ l → d ∣ x) → d ∣ gcd_all t l
gcd_all_greatest d {t} l = (gcd_all_is t l).greatest d

pub gcd_all_unique : {t : ℕ} (l : List ℕ) {g : ℕ} → g ∣ t → ((x : ℕ) → x ∈ l → g ∣ x) → ((d : ℕ) → d ∣ t → ((x : ℕ) → x ∈ l → d ∣ x) → d ∣ g) → g ≡ gcd_all t l
gcd_all_unique {t} l {g} base all best =
    dvd_antisymm (gcd_all_greatest g l base all) (best (gcd_all t l) (gcd_all_dvd_base t l) (λ x m. gcd_all_dvd t m))

-- only the set of members counts
pub gcd_all_ext : (t : ℕ) (l m : List ℕ) → ((x : ℕ) → x ∈ l → x ∈ m) → ((x : ℕ) → x ∈ m → x ∈ l) → gcd_all t l ≡ gcd_all t m
gcd_all_ext t l m on back =
    gcd_all_unique m (gcd_all_dvd_base t l) (λ x h. gcd_all_dvd t (back x h)) (λ d h all. gcd_all_greatest d l h (λ x k. all x (on x k)))

pub gcd_all_append : (t : ℕ) (l m : List ℕ) → gcd_all t (l ++ m) ≡ gcd_all (gcd_all t m) l
unfolding gcd_all
gcd_all_append t [] m = refl
gcd_all_append t (x ∷ xs) m = ap (gcd x) (gcd_all_append t xs m)

pub gcd_all_pos : {t : ℕ} (l : List ℕ) → 0 < t → 0 < gcd_all t l
gcd_all_pos {t} l h = pos_of_dvd_of_pos (gcd_all_dvd_base t l) h

pub gcd_all_le : {t : ℕ} (l : List ℕ) → 0 < t → gcd_all t l ≤ t
gcd_all_le {t} l h = le_of_dvd h (gcd_all_dvd_base t l)

-- after t / gcd e t multiples of e they come round modulo t
pub order : (e t : ℕ) → (t / gcd e t * e) % t ≡ 0
order e t = ap (λ x. x % t) whole ∙ mul-mod_right t (e / gcd e t)
  where
    whole : t / gcd e t * e ≡ t * (e / gcd e t)
    whole =
        let regroup : (a b d : ℕ) → a * (b * d) ≡ a * d * b = λ a b d. omega arith in
        ap (λ x. t / gcd e t * x) (sym (div-mul_cancel (gcd e t) (gcd_dvd_left e t)))
        ∙ (regroup (t / gcd e t) (e / gcd e t) (gcd e t) ∙ ap (λ x. x * (e / gcd e t)) (div-mul_cancel (gcd e t) (gcd_dvd_right e t)))

pub order_least : (e t m : ℕ) → 0 < m → m < t / gcd e t → (m * e) % t ≡ 0 → ⊥
order_least e t m pos l z =
    let at : t ∣ m * gcd e t =
    gcd_closed (λ x. t ∣ m * x) (λ x y p q h. rw (mul-sub m x y) (dvd-sub t p q)) e t (dvd_of_mod-eq-zero t z) (dvd-mul_left t m) in
    let few : m * gcd e t < t = (below_multiples (gcd e t) m (gcd_dvd_right e t) l).0 in
    let some : 0 < gcd e t = gcd_pos e {b = t} (omega arith) in
    let upper : t ≤ m * gcd e t = le_of_dvd (mul-pos pos some) at in
    omega arith

pub multiples_distinct : (e t x m m' : ℕ) → m < m' → m' < t / gcd e t → (x + m * e) % t ≡ (x + m' * e) % t → ⊥
multiples_distinct e t x m m' l l' h =
    let start : x + m * e + 0 ≡ x + m * e = omega arith in
    let more : (k : ℕ) → k ≡ m' - m → x + m' * e ≡ x + m * e + k * e = λ k q. let s : m' ≡ m + k = omega arith in rw s (omega arith) in
    let around : 0 % t ≡ ((m' - m) * e) % t =
    mod_cancel_left t 0 ((m' - m) * e) (x + m * e) (ap (λ y. y % t) start ∙ (h ∙ ap (λ y. y % t) (more (m' - m) refl))) in
    order_least e t (m' - m) (omega arith) (omega arith) (sym around ∙ zero-mod t)
