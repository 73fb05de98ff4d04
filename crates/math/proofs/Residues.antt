-- Numbers modulo t: adding and multiplying residues, cancelling, going back and forth by p, residues modulo a divisor,
-- and the multiples of d below t. Main results: mod_cancel_right, back_forth, forth_back, back_injective, residue_gap, multiples_below.
use Rattle.std.specs.Prelude.{◌≡◌, refl, ◌↔◌, ℕ, ◌+◌, ◌-◌, ◌*◌, ◌/◌, ◌%◌, ◌≤◌, ◌<◌}
use Rattle.std.proofs.Common.{sym, ◌∙◌, ap, ⊎_elim, arith, mod-lt, mod-eq_of_lt, eq-zero-or-pos, div-lt_iff_lt-mul, le-div_iff_mul-le, mul_comm, add_comm, zero-add}
use Rattle.std.proofs.Math.Logic.{by_cases}
use Rattle.std.specs.Int.{◌∣◌}
use Rattle.std.proofs.Math.Decide.{dec_le}
use Rattle.std.proofs.Math.Nat.{mod-zero, zero-mod, mod-mod, mod-add-mod, add-mod, add-mod_right, add-mul-mod_self_right, mod-add-div', mod-mod_of_dvd, mod-eq-zero_of_dvd, dvd_of_mod-eq-zero, div-mul_cancel, pos_of_div-pos, pos_of_dvd_of_pos, dvd-mul_left}
use Rattle.math.specs.Gcd.{gap}

pub add_congr : (t a a' b b' : ℕ) → a % t ≡ a' % t → b % t ≡ b' % t → (a + b) % t ≡ (a' + b') % t
add_congr t a a' b b' p q = add-mod a b t ∙ (rw (p, q) (sym (add-mod a' b' t)))

mul_mod_left_factor : (t a b : ℕ) → (a * b) % t ≡ (a % t * b) % t
mul_mod_left_factor t a b =
    let e : a * b ≡ a % t * b + a / t * b * t = ap (λ x. x * b) (sym (mod-add-div' a t)) ∙ omega arith in
    rw e (add-mul-mod_self_right (a % t * b) (a / t * b) t)

pub mod_mul_congr : (t a a' b b' : ℕ) → a % t ≡ a' % t → b % t ≡ b' % t → (a * b) % t ≡ (a' * b') % t
mod_mul_congr t a a' b b' p q =
    let swap : (x y z : ℕ) → (x * y) % t ≡ (z * y) % t → (y * x) % t ≡ (y * z) % t = λ x y z e. rw (mul_comm y x, mul_comm y z) e in
    let left : (x y z : ℕ) → x % t ≡ y % t → (x * z) % t ≡ (y * z) % t = λ x y z e. mul_mod_left_factor t x z ∙ (rw e (sym (mul_mod_left_factor t y z))) in
    left a a' b p ∙ swap b a' b' (left b b' a' q)

pub mod_cancel_right : (t a b c : ℕ) → (a + c) % t ≡ (b + c) % t → a % t ≡ b % t
mod_cancel_right t a b c e = ⊎_elim none some (eq-zero-or-pos t)
  where
    none : t ≡ 0 → a % t ≡ b % t
    none z = rw z (let h : a + c ≡ b + c = sym (mod-zero (a + c)) ∙ ((rw z at e) ∙ mod-zero (b + c)) in ap (λ x. x % 0) (omega arith))

    filled : 0 < t → (x : ℕ) → ((x + c) % t + (t - c % t)) % t ≡ x % t
    filled pos x =
        let h : x + c + (t - c % t) ≡ x + (c / t + 1) * t = omega (arith, mod-add-div' c t, mod-lt c pos) in
        mod-add-mod (x + c) t (t - c % t) ∙ (ap (λ y. y % t) h ∙ add-mul-mod_self_right x (c / t + 1) t)

    some : 0 < t → a % t ≡ b % t
    some pos = sym (filled pos a) ∙ (ap (λ y. (y + (t - c % t)) % t) e ∙ filled pos b)

pub mod_cancel_left : (t a b c : ℕ) → (c + a) % t ≡ (c + b) % t → a % t ≡ b % t
mod_cancel_left t a b c e = mod_cancel_right t a b c (rw (add_comm a c, add_comm b c) e)

pub residue_unique : {t k k' : ℕ} → k < t → k' < t → k % t ≡ k' % t → k ≡ k'
residue_unique h h' e = sym (mod-eq_of_lt h) ∙ (e ∙ mod-eq_of_lt h')

-- p steps back, then p steps on
pub back_forth : {t p : ℕ} (x : ℕ) → p ≤ t → ((x + t - p) % t + p) % t ≡ x % t
back_forth {t} {p} x h =
    let e : x + t - p + p ≡ x + t = omega arith in
    mod-add-mod (x + t - p) t p ∙ (ap (λ y. y % t) e ∙ add-mod_right x t)

-- p steps on, then p steps back
pub forth_back : {t p : ℕ} (x : ℕ) → p ≤ t → ((x + p) % t + t - p) % t ≡ x % t
forth_back {t} {p} x h =
    let e : (x + p) % t + t - p ≡ (x + p) % t + (t - p) = omega arith in
    let f : x + p + (t - p) ≡ x + t = omega arith in
    ap (λ y. y % t) e ∙ (mod-add-mod (x + p) t (t - p) ∙ (ap (λ y. y % t) f ∙ add-mod_right x t))

-- x with p taken away is y exactly if x is y with p added
pub same_back : {t p : ℕ} (x y : ℕ) → p ≤ t → ((x + t - p) % t ≡ y % t) ↔ (x % t ≡ (y + p) % t)
same_back {t} {p} x y h = (on, back)
  where
    on : (x + t - p) % t ≡ y % t → x % t ≡ (y + p) % t
    on e = sym (back_forth x h) ∙ add_congr t ((x + t - p) % t) y p p (mod-mod (x + t - p) t ∙ e) refl

    back : x % t ≡ (y + p) % t → (x + t - p) % t ≡ y % t
    back e = mod_cancel_right t (x + t - p) y p (sym (mod-add-mod (x + t - p) t p) ∙ (back_forth x h ∙ e))

pub back_injective : {t p k k' : ℕ} → p ≤ t → k < t → k' < t → (k + t - p) % t ≡ (k' + t - p) % t → k ≡ k'
back_injective {t} {p} {k} {k'} h l l' e =
    residue_unique l l' (sym (back_forth k h) ∙ (ap (λ x. (x + p) % t) e ∙ back_forth k' h))

pub dvd_residue : (d : ℕ) {t : ℕ} (a b : ℕ) → d ∣ t → a % t ≡ b % t → a % d ≡ b % d
dvd_residue d a b h e = sym (mod-mod_of_dvd d a h) ∙ (ap (λ x. x % d) e ∙ mod-mod_of_dvd d b h)

-- for b ≤ a: equal residues, and the difference a multiple
residue_sub : (d : ℕ) {a b : ℕ} → b ≤ a → (a % d ≡ b % d) ↔ (d ∣ a - b)
residue_sub d {a} {b} l = (on, back)
  where
    whole : a - b + b ≡ a
    whole = omega arith

    on : a % d ≡ b % d → d ∣ a - b
    on e = dvd_of_mod-eq-zero d (mod_cancel_right d (a - b) 0 b (ap (λ x. x % d) whole ∙ (e ∙ (rw zero-add))) ∙ zero-mod d)

    back : d ∣ a - b → a % d ≡ b % d
    back h = ap (λ x. x % d) (sym whole) ∙ (add_congr d (a - b) 0 b b (mod-eq-zero_of_dvd d h ∙ sym (zero-mod d)) refl ∙ (rw zero-add))

-- equal residues: the difference is a multiple
pub residue_gap : (d a b : ℕ) → (a % d ≡ b % d) ↔ (d ∣ gap a b)
unfolding gap
residue_gap d a b =
    by_cases (dec_le b a)
    (λ l. let e : gap a b ≡ a - b = omega arith in rw e (residue_sub d l))
    (λ n. let l : a ≤ b = omega arith in
    let e : gap a b ≡ b - a = omega arith in
    rw e (λ p. (residue_sub d l).0 (sym p), λ h. sym ((residue_sub d l).1 h)))

-- the multiples of d below t are m * d for the m below t / d
pub multiples_below : (d : ℕ) {t k : ℕ} → d ∣ t → k < t → d ∣ k → (m : ℕ) × (m < t / d) × (k ≡ m * d)
multiples_below d {t} {k} h l q =
    let pos : 0 < d = pos_of_dvd_of_pos h (omega arith) in
    (k / d, (div-lt_iff_lt-mul pos).1 (rw (div-mul_cancel d h) l), sym (div-mul_cancel d q))

pub below_multiples : (d : ℕ) {t : ℕ} (m : ℕ) → d ∣ t → m < t / d → (m * d < t) × (d ∣ m * d)
below_multiples d {t} m h l =
    let pos : 0 < d = pos_of_dvd_of_pos h (pos_of_div-pos d (omega arith)) in
    (omega (arith, (le-div_iff_mul-le pos).0 l), dvd-mul_left d m)
