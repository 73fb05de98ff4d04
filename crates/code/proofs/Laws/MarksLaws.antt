-- Marks as bits: the erasures that they say, setting and clearing one bit, and counting.
-- Main results: same_bits, same_marks, in_erasures, erasures_erased, set_mark, clear_mark, erasures_clear, bits_none, bits_more, bits_once, bits_list, mark_count_split, mark_count_byte,
-- erasure_total.
use Rattle.std.specs.Prelude.{◌≡◌, refl, ◌≢◌, ◌↔◌, ◌⊎◌, List, [], ◌∷◌, ℕ, zero, suc, ◌+◌, ◌-◌, ◌*◌, ◌/◌, ◌%◌, ◌^◌, ◌≤◌, ◌<◌, max, min, length, get_or, set, replicate}
use Rattle.std.proofs.Common.{sym, ◌∙◌, ap₂, subst, inl, inr, ⊎_elim, mod-lt, add-zero, add-suc, pow-suc, one-add, arith, get_or-set_same, get_or-set_other, ext_get_or, pow_pos, pow-add, shr-shr, eq-eqb, ne_eqb, eqb-true}
use Rattle.std.proofs.Math.Path.{ap}
use Rattle.std.proofs.Math.Logic.{by_cases}
use mathlib.Core.List.Memᴰ
use mathlib.Core.List.Memᴰ.{head}
use mathlib.Core.List.Memᴰ.{tail}
use Rattle.std.proofs.Math.Nat.{div-eq_of_lt, div_self, zero-div}
use Rattle.std.proofs.Math.Decide.{ℕ_discrete, dec_lt}
use Rattle.std.proofs.Math.Dec.{eqb}
use Rattle.std.specs.Int.Bits.{bit_and, bit_or, and_step, or_step}
use Rattle.std.proofs.lemmas.Nat.{and_shr, or_shr, shl-shr}
use Rattle.std.specs.Int.Count.{ones, ones_in, ones_step}
use Rattle.std.proofs.Math.Pow.{pow-lt}
use Rattle.math.specs.Members.{◌∈◌, from, up_to, without, Rising}
use Rattle.math.specs.MembersLaws.{by_place, ∈_up_to, up_to_∈, rising_up_to, from_∈, from_append, up_to_suc, ∈_keep, keep_∈, rising_keep, rising_without, rising_ext, ∈_without, without_∈}
use Rattle.math.specs.Padded.{zeros_at}
use Rattle.math.specs.Xor.{◌⊕◌, ⊕_bit}
use Rattle.math.specs.Sums.{sum_over, only}
use Rattle.math.specs.SumsLaws.{only_true, only_false, sum_over_ext, sum_over_zero, sum_over_append, length_keep_sum}
use Rattle.plan.specs.Layout.{Layout}
use Rattle.code.specs.Places.{places}
use Rattle.code.specs.Codewords.{bit_of}
use Rattle.code.specs.Marks.{mark, mark_bytes, NoSpare, erasures, BitsOf, mark_count}
use Rattle.code.proofs.Laws.Basics.{rising_places}
use Rattle.code.specs.Laws.Forest.{Erased}
use Rattle.code.specs.Laws.MarksLaws.{Puts, places_of}
use Rattle.code.proofs.Places.{places_all}

-- ---- bits

pub bit_lt : (b x : ℕ) → bit_of b x < 2
unfolding bit_of
bit_lt b x = omega arith

pub bit_zero : (x : ℕ) → bit_of 0 x ≡ x % 2
unfolding bit_of
bit_zero x = omega arith

-- a bit above the lowest is a bit of the half
pub bit_suc : (b x : ℕ) → bit_of (suc b) x ≡ bit_of b (x / 2)
unfolding bit_of
bit_suc b x = let e : 1 + b ≡ suc b = omega arith in rw (← e) (ap (λ y. y % 2) (sym (shr-shr x 1 b)))

pub bit_or_lem : (b x y : ℕ) → bit_of b (bit_or x y) ≡ max (bit_of b x) (bit_of b y)
unfolding bit_of
bit_or_lem b x y = rw (or_shr x y b) (omega (arith, or_step (x / 2 ^ b) (y / 2 ^ b)))

pub bit_and_lem : (b x y : ℕ) → bit_of b (bit_and x y) ≡ min (bit_of b x) (bit_of b y)
unfolding bit_of
bit_and_lem b x y = rw (and_shr x y b) (omega (arith, and_step (x / 2 ^ b) (y / 2 ^ b)))

pub bit_xor : (b x y : ℕ) → bit_of b (x ⊕ y) ≡ (bit_of b x + bit_of b y) % 2
unfolding bit_of
bit_xor b x y = ⊕_bit b x y

pub bit_pow_same : (b : ℕ) → bit_of b (2 ^ b) ≡ 1
unfolding bit_of
bit_pow_same b = rw (div_self (pow_pos b))

pub bit_pow_other : (b k : ℕ) → b ≢ k → bit_of b (2 ^ k) ≡ 0
unfolding bit_of
bit_pow_other b k n =
    by_cases (dec_lt k b)
    (λ h. rw (div-eq_of_lt (pow-lt h)))
    (λ h.
    let e : k ≡ suc (k - suc b) + b = omega arith in
    ap (λ x. 2 ^ x / 2 ^ b % 2) e ∙ rw (pow-add 2 (suc (k - suc b)) b, shl-shr, pow-suc) (omega arith))

bit_of_none : (b : ℕ) → bit_of b 0 ≡ 0
unfolding bit_of
bit_of_none b = rw (zero-div (2 ^ b))

-- the bits of a number of w bits taken from all ones
pub bit_not : (w b x : ℕ) → b < w → x < 2 ^ w → bit_of b (2 ^ w - 1 - x) ≡ 1 - bit_of b x
unfolding bit_of
bit_not zero b x h l = absurd (omega arith)
bit_not (suc w) zero x h l = let e : 2 ^ suc w ≡ 2 ^ w * 2 = pow-suc 2 w in omega arith
bit_not (suc w) (suc b) x h l =
    let e : 2 ^ suc w ≡ 2 ^ w * 2 = pow-suc 2 w in
    let f : (2 ^ suc w - 1 - x) / 2 ≡ 2 ^ w - 1 - x / 2 = omega arith in
    bit_suc b (2 ^ suc w - 1 - x) ∙ ap (bit_of b) f ∙ bit_not w b (x / 2) (omega arith) (omega arith) ∙ ap (λ y. 1 - y) (sym (bit_suc b x))

pub bit_mask : {b k : ℕ} → b < 8 → k < 8 → bit_of b (255 - 2 ^ k) ≡ 1 - bit_of b (2 ^ k)
bit_mask {b} {k} h l = bit_not 8 b (2 ^ k) h (pow-lt l)

-- numbers of k bits with the same bits are the same
pub same_bits : (k x y : ℕ) → x < 2 ^ k → y < 2 ^ k → ((b : ℕ) → b < k → bit_of b x ≡ bit_of b y) → x ≡ y
same_bits zero x y p q h = omega arith
same_bits (suc k) x y p q h =
    let m : 2 ^ suc k ≡ 2 ^ k * 2 = pow-suc 2 k in
    let e : x / 2 ≡ y / 2 = same_bits k (x / 2) (y / 2) (omega arith) (omega arith) (λ b l. sym (bit_suc b x) ∙ h (suc b) (omega arith) ∙ bit_suc b y) in
    let f : x % 2 ≡ y % 2 = sym (bit_zero x) ∙ h 0 (omega arith) ∙ bit_zero y in
    omega arith

-- a sum over a range that begins later
sum_shift : (f : ℕ → ℕ) (a j k : ℕ) → sum_over (from (a + j) k) f ≡ sum_over (from j k) (λ b. f (a + b))
unfolding from sum_over
sum_shift f a j zero = refl
sum_shift f a j (suc k) = ap (λ x. f (a + j) + x) (ap (λ x. sum_over (from x k) f) (sym (add-suc a j)) ∙ sum_shift f a (suc j) k)

-- the ones of a number of k bits
pub ones_bits : (k x : ℕ) → x < 2 ^ k → sum_over (up_to k) (λ b. bit_of b x) ≡ ones x
unfolding up_to sum_over ones ones_in
ones_bits zero x h = let e : x ≡ 0 = omega arith in rw e
ones_bits (suc k) x h =
    let e : 2 ^ suc k ≡ 2 ^ k * 2 = pow-suc 2 k in
    ap₂ ◌+◌ (bit_zero x)
    (sum_shift (λ b. bit_of b x) 1 0 k
    ∙ sum_over_ext (up_to k) (λ b. bit_of (1 + b) x) (λ b. bit_of b (x / 2)) (λ b _. ap (λ y. bit_of y x) (one-add b) ∙ bit_suc b x)
    ∙ ones_bits k (x / 2) (omega arith))
    ∙ sym (ones_step x)

-- ---- marks and erasures

pub mark_bit : (m : List ℕ) (c : ℕ) → mark m c < 2
unfolding mark
mark_bit m c = bit_lt (c % 8) (get_or m (c / 8) 0)

only_mark : (m : List ℕ) (c : ℕ) → only (eqb (mark m c) 1) 1 ≡ mark m c
only_mark m c =
    by_cases (ℕ_discrete (mark m c) 1)
    (λ e. rw e (only_true 1 (eq-eqb 1 1 refl)))
    (λ n. only_false 1 (ne_eqb (mark m c) 1 n) ∙ omega (arith, mark_bit m c))

pub mark_at : (m : List ℕ) (i b : ℕ) → b < 8 → mark m (8 * i + b) ≡ bit_of b (get_or m i 0)
unfolding mark
mark_at m i b h =
    let e : (8 * i + b) / 8 ≡ i = omega arith in
    let f : (8 * i + b) % 8 ≡ b = omega arith in
    rw (e, f)

-- mark bytes with the same marks are the same
pub same_marks : (m k : List ℕ) → length m ≡ length k → ((i : ℕ) → get_or m i 0 < 256) → ((i : ℕ) → get_or k i 0 < 256) →
    ((d : ℕ) → d < 8 * length m → mark m d ≡ mark k d) → m ≡ k
same_marks m k l a b h =
    ext_get_or 0 m k l
    (λ i less. same_bits 8 (get_or m i 0) (get_or k i 0) (a i) (b i)
    (λ j s. sym (mark_at m i j s) ∙ h (8 * i + j) (omega arith) ∙ mark_at k i j s))

pub in_erasures : (L : Layout) (m : List ℕ) (c : ℕ) → (c ∈ erasures L m) ↔ ((c ∈ places L) × (mark m c ≡ 1))
unfolding erasures
in_erasures L m c = (
  λ k. let o = keep_∈ (λ d. eqb (mark m d) 1) (places L) k in (o.0, eqb-true (mark m c) 1 o.1),
  λ p. ∈_keep (λ d. eqb (mark m d) 1) p.0 (eq-eqb (mark m c) 1 p.1),
)

pub rising_erasures : (L : Layout) (m : List ℕ) → Rising (erasures L m)
unfolding erasures
rising_erasures L m = rising_keep (λ c. eqb (mark m c) 1) (rising_places L)

pub erasures_erased : (L : Layout) (m : List ℕ) → Erased L (erasures L m)
erasures_erased L m = record { rising = rising_erasures L m; inside = λ c k. ((in_erasures L m c).0 k).0 }

pub not_marked : (L : Layout) (m : List ℕ) {c : ℕ} → c ∈ places L → ¬ (c ∈ erasures L m) → mark m c ≡ 0
not_marked L m {c} i n = let f : mark m c ≢ 1 = λ e. n ((in_erasures L m c).1 (i, e)) in omega (arith, mark_bit m c)

-- a byte stored that differs at most in the bit of c
pub mark_set : (m : List ℕ) (c y : ℕ) → c / 8 < length m →
    ((b : ℕ) → b < 8 → b ≢ c % 8 → bit_of b y ≡ bit_of b (get_or m (c / 8) 0)) → Puts m c (bit_of (c % 8) y) (set m (c / 8) y)
unfolding mark
mark_set m c y h f =
    record {
      here = ap (bit_of (c % 8)) (get_or-set_same m (c / 8) y 0 h);
      others = λ d n. by_cases (ℕ_discrete (d / 8) (c / 8))
          (λ e. rw (e, get_or-set_same m (c / 8) y 0 h) (f (d % 8) (omega arith) (λ g. n (omega arith))))
          (λ e. ap (bit_of (d % 8)) (get_or-set_other m (c / 8) (d / 8) y 0 e));
    }

pub set_mark : (m : List ℕ) (c : ℕ) → c / 8 < length m → Puts m c 1 (set m (c / 8) (bit_or (get_or m (c / 8) 0) (2 ^ (c % 8))))
set_mark m c h =
    subst (λ b. Puts m c b (set m (c / 8) (bit_or (get_or m (c / 8) 0) (2 ^ (c % 8)))))
    (rw (bit_or_lem, bit_pow_same (c % 8)) (omega (arith, bit_lt (c % 8) (get_or m (c / 8) 0))))
    (mark_set m c (bit_or (get_or m (c / 8) 0) (2 ^ (c % 8))) h (λ b _ n. rw (bit_or_lem, bit_pow_other b (c % 8) n) (omega arith)))

pub clear_mark : (m : List ℕ) (c : ℕ) → c / 8 < length m → Puts m c 0 (set m (c / 8) (bit_and (get_or m (c / 8) 0) (255 - 2 ^ (c % 8))))
clear_mark m c h =
    subst (λ b. Puts m c b (set m (c / 8) (bit_and (get_or m (c / 8) 0) (255 - 2 ^ (c % 8)))))
    (rw (bit_and_lem, bit_mask (mod-lt c (omega arith)) (mod-lt c (omega arith)), bit_pow_same (c % 8)) (omega arith))
    (mark_set m c (bit_and (get_or m (c / 8) 0) (255 - 2 ^ (c % 8))) h
    (λ b l n. rw (bit_and_lem, bit_mask l (mod-lt c (omega arith)), bit_pow_other b (c % 8) n) (omega (arith, bit_lt b (get_or m (c / 8) 0)))))

pub flip_mark : (m : List ℕ) (c : ℕ) → c / 8 < length m → Puts m c (1 - mark m c) (set m (c / 8) (get_or m (c / 8) 0 ⊕ 2 ^ (c % 8)))
unfolding mark
flip_mark m c h =
    subst (λ b. Puts m c b (set m (c / 8) (get_or m (c / 8) 0 ⊕ 2 ^ (c % 8))))
    (rw (bit_xor, bit_pow_same (c % 8)) (omega (arith, bit_lt (c % 8) (get_or m (c / 8) 0))))
    (mark_set m c (get_or m (c / 8) 0 ⊕ 2 ^ (c % 8)) h
    (λ b l n. rw (bit_xor, bit_pow_other b (c % 8) n) (omega (arith, bit_lt b (get_or m (c / 8) 0)))))

-- a cleared place leaves the erasures, a set one comes to them
pub erasures_clear : (L : Layout) {m m' : List ℕ} {c : ℕ} → Puts m c 0 m' → erasures L m' ≡ without c (erasures L m)
erasures_clear L {m} {m'} {c} p =
    rising_ext (rising_erasures L m') (rising_without c (rising_erasures L m))
    (λ d k. let o = (in_erasures L m' d).0 k in
    let n : d ≢ c = λ e. let z : mark m' d ≡ 0 = rw e p.here in omega (arith, o.1) in
    ∈_without ((in_erasures L m d).1 (o.0, sym (p.others d n) ∙ o.1)) n)
    (λ d k. let o = without_∈ c (erasures L m) k in
    let q = (in_erasures L m d).0 o.0 in
    (in_erasures L m' d).1 (q.0, p.others d o.1 ∙ q.1))

pub erasures_set : (L : Layout) {m m' : List ℕ} {c : ℕ} → Puts m c 1 m' → c ∈ places L → (d : ℕ) → (d ∈ erasures L m') ↔ ((d ≡ c) ⊎ (d ∈ erasures L m))
erasures_set L {m} {m'} {c} p i d = (
  λ k. by_cases (ℕ_discrete d c) inl
      (λ n. let o = (in_erasures L m' d).0 k in inr ((in_erasures L m d).1 (o.0, sym (p.others d n) ∙ o.1))),
  λ k. by_cases (ℕ_discrete d c)
      (λ e. rw e ((in_erasures L m' c).1 (i, p.here)))
      (λ n. ⊎_elim (λ e. absurd (n e)) (λ q. let o = (in_erasures L m d).0 q in (in_erasures L m' d).1 (o.0, p.others d n ∙ o.1)) k),
)

-- ---- bits that say a list

pub mark_none : (k c : ℕ) → mark (replicate k 0) c ≡ 0
unfolding mark
mark_none k c = rw (zeros_at k (c / 8)) (bit_of_none (c % 8))

pub bits_none : (k : ℕ) → BitsOf [] (replicate k 0)
bits_none k = record {
  bytes = λ i. rw (zeros_at k i) (omega arith);
  exact = λ c h. (λ e. absurd (omega (arith, mark_none k c)), λ m. absurd (Memᴰ.not-nil m));
}

-- one more place
pub bits_more : {l m m' : List ℕ} {c : ℕ} → BitsOf l m → length m' ≡ length m → ((i : ℕ) → get_or m' i 0 < 256) → Puts m c 1 m' → BitsOf (c ∷ l) m'
bits_more {l} {m} {m'} {c} b e bytes p = record {
  bytes = bytes;
  exact = λ d h. by_cases (ℕ_discrete d c)
      (λ q. (λ _. head q, λ _. rw q p.here))
      (λ n.
      let k = b.exact d (omega arith) in
      (λ s. tail (k.0 (sym (p.others d n) ∙ s)), λ i. p.others d n ∙ k.1 (by_place i (λ q. absurd (n q)) (λ j. j))));
}

-- the same list is said by one list of bytes
pub bits_once : {l m k : List ℕ} → length m ≡ length k → BitsOf l m → BitsOf l k → m ≡ k
bits_once {l} {m} {k} e a b =
    same_marks m k e a.bytes b.bytes
    (λ c h. let x = a.exact c h in
    let y = b.exact c (omega arith) in
    by_cases (ℕ_discrete (mark m c) 1)
    (λ q. q ∙ sym (y.1 (x.0 q)))
    (λ n. let o : mark k c ≢ 1 = λ q. n (x.1 (y.0 q)) in omega (arith, mark_bit m c, mark_bit k c)))

-- the list read from its bits
pub bits_list : {l m : List ℕ} (k : ℕ) → BitsOf l m → Rising l → ((c : ℕ) → c ∈ l → c < k) → k ≤ 8 * length m → places_of m 0 k ≡ l
unfolding places_of up_to
bits_list {l} {m} k b r inside h =
    rising_ext (rising_keep (λ c. eqb (mark m c) 1) (rising_up_to k)) r
    (λ c i. let o = keep_∈ (λ d. eqb (mark m d) 1) (up_to k) i in
    let less : c < k = up_to_∈ k o.0 in
    (b.exact c (omega arith)).0 (eqb-true (mark m c) 1 o.1))
    (λ c i. let less : c < k = inside c i in
    ∈_keep (λ d. eqb (mark m d) 1) (∈_up_to less) (eq-eqb (mark m c) 1 ((b.exact c (omega arith)).1 i)))

-- ---- counting

pub mark_count_none : (m : List ℕ) (a : ℕ) → mark_count m a 0 ≡ 0
unfolding mark_count from sum_over
mark_count_none m a = refl

pub mark_count_split : (m : List ℕ) (a j k : ℕ) → mark_count m a (j + k) ≡ mark_count m a j + mark_count m (a + j) k
unfolding mark_count
mark_count_split m a j k = rw (from_append a j k) (sum_over_append (from a j) (from (a + j) k) (λ c. mark m c))

pub mark_count_one : (m : List ℕ) (a : ℕ) → mark_count m a 1 ≡ mark m a
unfolding mark_count from sum_over
mark_count_one m a = add-zero (mark m a)

pub mark_count_suc : (m : List ℕ) (a k : ℕ) → mark_count m a (k + 1) ≡ mark_count m a k + mark m (a + k)
mark_count_suc m a k = mark_count_split m a k 1 ∙ ap (λ x. mark_count m a k + x) (mark_count_one m (a + k))

pub mark_count_zero : (m : List ℕ) (a k : ℕ) → ((c : ℕ) → a ≤ c → c < a + k → mark m c ≡ 0) → mark_count m a k ≡ 0
unfolding mark_count
mark_count_zero m a k h = sum_over_zero (from a k) (λ c. mark m c) (λ c i. let o = from_∈ a k i in h c o.0 o.1)

pub mark_count_byte : (m : List ℕ) (i : ℕ) → get_or m i 0 < 256 → mark_count m (8 * i) 8 ≡ ones (get_or m i 0)
unfolding mark_count up_to
mark_count_byte m i h =
    ap (λ a. sum_over (from a 8) (λ c. mark m c)) (sym (add-zero (8 * i)))
    ∙ sum_shift (λ c. mark m c) (8 * i) 0 8
    ∙ sum_over_ext (up_to 8) (λ b. mark m (8 * i + b)) (λ b. bit_of b (get_or m i 0)) (λ b k. mark_at m i b (up_to_∈ 8 k))
    ∙ ones_bits 8 (get_or m i 0) h

-- a sum over a range, from its end
sum_suc : (f : ℕ → ℕ) (k : ℕ) → sum_over (up_to (suc k)) f ≡ sum_over (up_to k) f + f k
unfolding sum_over
sum_suc f k = rw (up_to_suc k, sum_over_append) (ap (λ x. sum_over (up_to k) f + x) (add-zero (f k)))

pub mark_count_bytes : (m : List ℕ) (k : ℕ) → ((i : ℕ) → i < k → get_or m i 0 < 256) → mark_count m 0 (8 * k) ≡ sum_over (up_to k) (λ i. ones (get_or m i 0))
unfolding up_to sum_over
mark_count_bytes m zero h = mark_count_none m 0
mark_count_bytes m (suc k) h =
    let e : 8 * suc k ≡ 8 * k + 8 = omega arith in
    let f : 0 + 8 * k ≡ 8 * k = omega arith in
    rw (e, mark_count_split m 0 (8 * k) 8, f, mark_count_byte m k (h k (omega arith)), mark_count_bytes m k (λ i l. h i (omega arith)), sum_suc (λ i. ones (get_or m i 0)) k)

-- a layout in which every section takes part
module _ (L : Layout) (all : L.sections ≡ up_to L.n) (positive : 0 < L.t) where
  pub erasure_count : (m : List ℕ) → length (erasures L m) ≡ mark_count m 0 (L.n * L.t)
  unfolding erasures mark_count up_to
  erasure_count m =
      length_keep_sum (λ c. eqb (mark m c) 1) (places L)
      ∙ sum_over_ext (places L) (λ c. only (eqb (mark m c) 1) 1) (λ c. mark m c) (λ c _. only_mark m c)
      ∙ ap (λ l. sum_over l (λ c. mark m c)) (places_all L all positive)

-- no spare bit counts
pub marks_total : (L : Layout) (m : List ℕ) → length m ≡ mark_bytes L → NoSpare L m → ((i : ℕ) → get_or m i 0 < 256) →
    mark_count m 0 (L.n * L.t) ≡ sum_over (up_to (length m)) (λ i. ones (get_or m i 0))
unfolding NoSpare mark_bytes
marks_total L m e s h =
    let f : L.n * L.t + (8 * length m - L.n * L.t) ≡ 8 * length m = omega arith in
    let z = mark_count_zero m (0 + L.n * L.t) (8 * length m - L.n * L.t) (λ c a b. s c (omega arith) (omega arith)) in
    let p = mark_count_split m 0 (L.n * L.t) (8 * length m - L.n * L.t) in
    let q : mark_count m 0 (L.n * L.t) ≡ mark_count m 0 (L.n * L.t + (8 * length m - L.n * L.t)) = omega arith in
    q ∙ ap (mark_count m 0) f ∙ mark_count_bytes m (length m) (λ i _. h i)

pub erasure_total : (L : Layout) → L.sections ≡ up_to L.n → 0 < L.t → (m : List ℕ) → length m ≡ mark_bytes L → NoSpare L m →
    ((i : ℕ) → get_or m i 0 < 256) → length (erasures L m) ≡ sum_over (up_to (length m)) (λ i. ones (get_or m i 0))
erasure_total L all positive m e s h = erasure_count L all positive m ∙ marks_total L m e s h
