-- A stretch of places, cut into the rest of its first byte, whole bytes and the front of its last byte; its marks counted and tested by these parts.
-- Main results: count_places, none_places (what the count and the test say, place by place); count_bytes, zero_bytes; count_parts; none_first, none_middle, none_last.
use Rattle.std.specs.Prelude.{◌≡◌, refl, ◌≢◌, ◌↔◌, Bool, true, false, List, ℕ, ◌+◌, ◌-◌, ◌*◌, ◌/◌, ◌%◌, ◌^◌, ◌≤◌, ◌<◌, eqb, length, get_or, take, drop}
use Rattle.std.proofs.Common.{sym, ◌∙◌, ap, subst, true≢false, mod-lt, arith, length-drop, pow_pos, get_or-take, get_or-drop, length-take-le, eq-eqb, ne_eqb, eqb-true}
use Rattle.std.proofs.Math.Logic.{by_cases}
use Rattle.std.proofs.Math.Nat.{zero-div}
use Rattle.std.proofs.Math.Decide.{ℕ_discrete}
use Rattle.std.specs.Int.Count.{ones}
use Rattle.std.proofs.Math.Pow.{field}
use Rattle.std.proofs.lemmas.Nat.{shl-shr}
use Rattle.math.specs.Members.{keep, from}
use Rattle.math.specs.Sums.{only}
use Rattle.math.specs.SumsLaws.{only_true, only_false, sum_over_ext, length_keep_sum}
use Rattle.slices.specs.Zeros.{all_zero, all_zero_at, at_all_zero}
use Rattle.code.specs.Codewords.{bit_of}
use Rattle.code.specs.Marks.{mark, mark_count}
use Rattle.code.proofs.Laws.MarksLaws.{mark_bit, mark_count_none, mark_count_split, mark_count_zero, mark_count_byte, mark_count_bytes}
use Rattle.stretches.specs.Stretches.{none_from, none_in, ones_of}
use Rattle.stretches.specs.ByteLaws.{ones_zero, ones_none, part_count, count_none}

-- ---- what they say, place by place

-- the count is the number of marked places of the stretch
pub count_places : (m : List ℕ) (a k : ℕ) → mark_count m a k ≡ length (keep (λ c. eqb (mark m c) 1) (from a k))
unfolding mark_count
count_places m a k =
    sum_over_ext (from a k) (λ c. mark m c) (λ c. only (eqb (mark m c) 1) 1)
    (λ c _. by_cases (ℕ_discrete (mark m c) 1)
    (λ e. e ∙ sym (only_true 1 (eq-eqb (mark m c) 1 e)))
    (λ n. let z : mark m c ≡ 0 = omega (arith, mark_bit m c) in z ∙ sym (only_false 1 (ne_eqb (mark m c) 1 n))))
    ∙ sym (length_keep_sum (λ c. eqb (mark m c) 1) (from a k))

-- the test is that no place of the stretch is marked
pub none_places : (m : List ℕ) (a k : ℕ) → (none_in m a k ≡ true) ↔ ((c : ℕ) → a ≤ c → c < a + k → mark m c ≡ 0)
none_places m a k = (
  λ e c h l. let s : a + (c - a) ≡ c = omega arith in ap (mark m) (sym s) ∙ count_none m a k (eqb-true (mark_count m a k) 0 e) (c - a) (omega arith),
  λ f. eq-eqb (mark_count m a k) 0 (mark_count_zero m a k f),
)

-- ---- whole bytes

-- one byte more
pub count_bytes : (m : List ℕ) (i j : ℕ) → get_or m (i + j) 0 < 256 → mark_count m (8 * i) (8 * (j + 1)) ≡ mark_count m (8 * i) (8 * j) + ones (get_or m (i + j) 0)
count_bytes m i j h =
    let e : 8 * (j + 1) ≡ 8 * j + 8 = omega arith in
    let f : 8 * i + 8 * j ≡ 8 * (i + j) = omega arith in
    ap (mark_count m (8 * i)) e ∙ mark_count_split m (8 * i) (8 * j) 8
    ∙ ap (λ x. mark_count m (8 * i) (8 * j) + x) (ap (λ a. mark_count m a 8) f ∙ mark_count_byte m (i + j) h)

pub count_none_yet : (m : List ℕ) (i : ℕ) → 0 ≡ mark_count m (8 * i) (8 * 0)
count_none_yet m i = sym (mark_count_none m (8 * i))

-- the ones of all bytes
pub count_all : (m : List ℕ) → ((i : ℕ) → get_or m i 0 < 256) → mark_count m (8 * 0) (8 * length m) ≡ ones_of m (length m)
unfolding ones_of
count_all m h = mark_count_bytes m (length m) (λ i _. h i)

both_ways : (p q : Bool) → (p ≡ true → q ≡ true) → (q ≡ true → p ≡ true) → p ≡ q
both_ways true q f g = sym (f refl)
both_ways false true f g = g refl
both_ways false false f g = refl

-- n bytes are all 0 if none of their places is marked, and the other way round
pub zero_bytes : (m : List ℕ) (i n : ℕ) → i + n ≤ length m → ((j : ℕ) → get_or m j 0 < 256) → all_zero (take n (drop i m)) ≡ none_in m (8 * i) (8 * n)
unfolding mark bit_of
zero_bytes m i n l h =
    both_ways (all_zero (take n (drop i m))) (none_in m (8 * i) (8 * n))
    (λ e. (none_places m (8 * i) (8 * n)).1 (λ c a b. clear c (sym (same (c / 8 - i) (omega arith)) ∙ all_zero_at (take n (drop i m)) e (c / 8 - i)) (omega arith)))
    (λ e. at_all_zero (take n (drop i m)) (λ j b. blank e j (rw (long) at b)))
  where
    long : length (take n (drop i m)) ≡ n
    long = length-take-le n (drop i m) (rw length-drop (omega arith))

    same : (j : ℕ) → j < n → get_or (take n (drop i m)) j 0 ≡ get_or m (i + j) 0
    same j b = get_or-take n (drop i m) j 0 b ∙ get_or-drop i m j 0

    clear : (c : ℕ) → get_or m (i + (c / 8 - i)) 0 ≡ 0 → i ≤ c / 8 → mark m c ≡ 0
    clear c e b = let q : i + (c / 8 - i) ≡ c / 8 = omega arith in rw (← q, e) (ap (λ y. y % 2) (zero-div (2 ^ (c % 8))))

    blank : none_in m (8 * i) (8 * n) ≡ true → (j : ℕ) → j < n → get_or (take n (drop i m)) j 0 ≡ 0
    blank e j b =
        same j b
        ∙ ones_none 8 (get_or m (i + j) 0) (h (i + j))
        (sym (mark_count_byte m (i + j) (h (i + j))) ∙ mark_count_zero m (8 * (i + j)) 8 (λ c a d. (none_places m (8 * i) (8 * n)).0 e c (omega arith) (omega arith)))

-- the bytes from byte j to the end
pub zero_rest : (m : List ℕ) (j : ℕ) → j ≤ length m → ((i : ℕ) → get_or m i 0 < 256) → all_zero (take (length m - j) (drop j m)) ≡ none_from m (8 * j)
unfolding none_from
zero_rest m j l h =
    let e : 8 * (length m - j) ≡ 8 * length m - 8 * j = omega arith in
    zero_bytes m j (length m - j) (omega arith) h ∙ ap (none_in m (8 * j)) e

-- ---- bits of one byte

-- the k low bits of a byte, as the code cuts them out
pub low_bits : (x k : ℕ) → k ≤ 8 → x * 2 ^ (8 - k) % 2 ^ 8 / 2 ^ (8 - k) ≡ x % 2 ^ k
low_bits x k h =
    let e : 8 ≡ k + (8 - k) = omega arith in
    ap (λ w. x * 2 ^ (8 - k) % 2 ^ w / 2 ^ (8 - k)) e ∙ field (x * 2 ^ (8 - k)) k (8 - k) ∙ ap (λ y. y % 2 ^ k) (shl-shr x (8 - k))

-- ---- a stretch in parts

-- the k places from a on: `first` of them in the byte of a, then `bytes` whole bytes from byte `next` on, and `last` of the byte after these
pub record Cuts (a k first next bytes last : ℕ) : Type 0 where
  pub whole : first + (8 * bytes + last) ≡ k
  pub begins : a % 8 + first ≤ 8
  pub ends : last < 8
  pub meets : (bytes + last ≡ 0 → ⊥) → a + first ≡ 8 * next
  pub bound : 8 * next ≤ a + 7

module _ {a k first next bytes last : ℕ} (C : Cuts a k first next bytes last) where
  -- the whole bytes lie in the buffer
  pub cut_within : (size : ℕ) → a + k ≤ 8 * size → next + bytes ≤ size
  cut_within size h =
      by_cases (ℕ_discrete (bytes + last) 0)
      (λ z. omega (arith, C.bound, C.whole))
      (λ n. omega (arith, C.meets n, C.whole))

  module _ (m : List ℕ) where
    -- the count of the stretch is that of its parts
    pub count_cut : mark_count m a k ≡ mark_count m a first + (mark_count m (8 * next) (8 * bytes) + mark_count m (8 * (next + bytes)) last)
    count_cut =
        let e : 8 * next + 8 * bytes ≡ 8 * (next + bytes) = omega arith in
        ap (mark_count m a) (sym C.whole) ∙ mark_count_split m a first (8 * bytes + last)
        ∙ ap (λ x. mark_count m a first + x)
        (moved ∙ mark_count_split m (8 * next) (8 * bytes) last ∙ ap (λ x. mark_count m (8 * next) (8 * bytes) + mark_count m x last) e)
      where
        moved : mark_count m (a + first) (8 * bytes + last) ≡ mark_count m (8 * next) (8 * bytes + last)
        moved =
            by_cases (ℕ_discrete (bytes + last) 0)
            (λ z. let q : 8 * bytes + last ≡ 0 = omega arith in rw q (mark_count_none m (a + first) ∙ sym (mark_count_none m (8 * next))))
            (λ n. ap (λ x. mark_count m x (8 * bytes + last)) (C.meets n))

-- ---- one part, in its byte

-- some bit is set if the number is not 0
ones_test : (k y : ℕ) → y < 2 ^ k → eqb (ones y) 0 ≡ eqb y 0
ones_test k y h =
    both_ways (eqb (ones y) 0) (eqb y 0)
    (λ e. eq-eqb y 0 (ones_none k y h (eqb-true (ones y) 0 e)))
    (λ e. eq-eqb (ones y) 0 (ap ones (eqb-true y 0 e) ∙ ones_zero))

-- ---- the stretch by its parts: x and y are the bits of the first and the last, w the count of the bytes between
module _ {a k first next bytes last : ℕ} (C : Cuts a k first next bytes last) (m : List ℕ) {x y : ℕ}
    (ex : x ≡ get_or m (a / 8) 0 / 2 ^ (a % 8) % 2 ^ first) (ey : y ≡ get_or m (next + bytes) 0 / 2 ^ 0 % 2 ^ last) where
  first_count : mark_count m a first ≡ ones x
  first_count =
      let e : 8 * (a / 8) + a % 8 ≡ a = omega arith in
      ap (λ z. mark_count m z first) (sym e) ∙ part_count m (a / 8) (a % 8) first C.begins ∙ ap ones (sym ex)

  last_count : mark_count m (8 * (next + bytes)) last ≡ ones y
  last_count =
      let e : 8 * (next + bytes) + 0 ≡ 8 * (next + bytes) = omega arith in
      ap (λ z. mark_count m z last) (sym e) ∙ part_count m (next + bytes) 0 last (omega (arith, C.ends)) ∙ ap ones (sym ey)

  pub count_parts : {p w q : ℕ} → p ≡ ones x → w ≡ mark_count m (8 * next) (8 * bytes) → q ≡ ones y → p + w + q ≡ mark_count m a k
  count_parts ep e eq = omega (arith, count_cut C m, first_count, last_count, e, ep, eq)

  small_x : x < 2 ^ first
  small_x = subst (λ z. z < 2 ^ first) (sym ex) (mod-lt (get_or m (a / 8) 0 / 2 ^ (a % 8)) (pow_pos first))

  small_y : y < 2 ^ last
  small_y = subst (λ z. z < 2 ^ last) (sym ey) (mod-lt (get_or m (next + bytes) 0 / 2 ^ 0) (pow_pos last))

  pub none_first : x ≢ 0 → false ≡ none_in m a k
  none_first n =
      sym (ne_eqb (mark_count m a k) 0 (λ z. n (ones_none first x small_x (omega (arith, count_cut C m, first_count)))))

  -- z is the test of the bytes between
  module _ {z : Bool} (l : a + k ≤ 8 * length m) (h : (j : ℕ) → get_or m j 0 < 256) (e : z ≡ all_zero (take (next + bytes - next) (drop next m))) where
    middle : z ≡ none_in m (8 * next) (8 * bytes)
    middle = let f : next + bytes - next ≡ bytes = omega arith in e ∙ ap (λ v. all_zero (take v (drop next m))) f ∙ zero_bytes m next bytes (cut_within C (length m) l) h

    pub none_middle : z ≡ false → false ≡ none_in m a k
    none_middle g =
        sym (ne_eqb (mark_count m a k) 0
        (λ o. true≢false (sym (eq-eqb (mark_count m (8 * next) (8 * bytes)) 0 (omega (arith, count_cut C m))) ∙ sym middle ∙ g)))

    pub none_last : x ≡ 0 → z ≡ true → eqb y 0 ≡ none_in m a k
    none_last o g =
        let p : mark_count m a first ≡ 0 = first_count ∙ ap ones o ∙ ones_zero in
        let w : mark_count m (8 * next) (8 * bytes) ≡ 0 = eqb-true (mark_count m (8 * next) (8 * bytes)) 0 (sym middle ∙ g) in
        let c : ones y ≡ mark_count m a k = omega (arith, count_cut C m, last_count) in
        sym (ones_test last y small_y) ∙ ap (λ v. eqb v 0) c
