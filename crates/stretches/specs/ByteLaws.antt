-- Counting the marks by bytes: the places of one byte, and that none is set from a place on.
-- Main results: part_count, none_past, none_clear, none_set, count_none, none_marked.
use Rattle.std.specs.Prelude.{◌≡◌, refl, ◌≢◌, true, false, List, eqb, length}
use Rattle.std.proofs.Math.Path.{sym, ap, ap₂}
use Rattle.std.proofs.Common.{◌∙◌, subst, pow-suc, add-one, arith, shr-shr, shr_lt, eq-eqb, ne_eqb, eqb-true}
use Rattle.std.proofs.Math.Logic.{by_cases}
use Prim.Native.Nat.{ℕ, zero, suc, ◌+◌, ◌-◌, ◌*◌, ◌/◌, ◌%◌, ◌^◌, ◌≤◌, ◌<◌}
use Rattle.std.proofs.Math.Decide.{ℕ_discrete}
use Rattle.std.specs.Int.Count.{ones, ones_in, ones_step}
use Rattle.std.proofs.Math.ListN.{get_or}
use Rattle.std.proofs.Math.Pow.{field, mod-mod-pow, shr_mod}
use Rattle.code.specs.Codewords.{bit_of}
use Rattle.code.specs.Marks.{mark, mark_count}
use Rattle.code.proofs.Laws.MarksLaws.{mark_at, mark_count_none, mark_count_one, mark_count_split, mark_count_suc}
use Rattle.stretches.specs.Stretches.{none_from}

pub ones_zero : ones 0 ≡ 0
unfolding ones ones_in
ones_zero = refl

-- a number with no digit set is 0
pub ones_none : (k y : ℕ) → y < 2 ^ k → ones y ≡ 0 → y ≡ 0
ones_none zero y h e = omega arith
ones_none (suc k) y h e =
    let s = ones_step y in
    let p : 2 ^ suc k ≡ 2 ^ k * 2 = pow-suc 2 k in
    let r : y / 2 ≡ 0 = ones_none k (y / 2) (omega arith) (omega arith) in
    omega arith

-- the marks of the k places from bit b of byte i on are the ones of its bits there
pub part_count : (m : List ℕ) (i b k : ℕ) → b + k ≤ 8 → mark_count m (8 * i + b) k ≡ ones (get_or m i 0 / 2 ^ b % 2 ^ k)
part_count m i b zero h =
    let e : get_or m i 0 / 2 ^ b % 1 ≡ 0 = omega arith in
    mark_count_none m (8 * i + b) ∙ sym ones_zero ∙ ap ones (sym e)
part_count m i b (suc k) h =
    let y = get_or m i 0 / 2 ^ b in
    let one : suc k ≡ 1 + k = omega arith in
    let next : 8 * i + b + 1 ≡ 8 * i + (b + 1) = omega arith in
    let bit : mark m (8 * i + b) ≡ y % 2 = unfold bit_of in mark_at m i b (omega arith) in
    let low : y % 2 ^ (k + 1) % 2 ≡ y % 2 = mod-mod-pow y k 1 in
    let high : y % 2 ^ (k + 1) / 2 ≡ get_or m i 0 / 2 ^ (b + 1) % 2 ^ k = field y k 1 ∙ ap (λ z. z % 2 ^ k) (shr-shr (get_or m i 0) b 1) in
    ap (mark_count m (8 * i + b)) one
    ∙ mark_count_split m (8 * i + b) 1 k
    ∙ ap₂ ◌+◌ (mark_count_one m (8 * i + b) ∙ bit ∙ sym low) (ap (λ a. mark_count m a k) next ∙ part_count m i (b + 1) k (omega arith) ∙ ap ones (sym high))
    ∙ sym (ones_step (y % 2 ^ (k + 1)))
    ∙ ap (λ x. ones (y % 2 ^ x)) (add-one k)

-- the marks of byte i from bit b on
byte_rest : (m : List ℕ) (i k b : ℕ) → k + b ≡ 8 → get_or m i 0 < 256 → mark_count m (8 * i + b) k ≡ ones (get_or m i 0 / 2 ^ b)
byte_rest m i k b e h =
    part_count m i b k (omega arith) ∙ ap ones (shr_mod k b (subst (λ (x : ℕ). get_or m i 0 < 2 ^ x) (sym e) h))

-- the marks from place a on: those of its byte, and those of the bytes after it
rest_split : (m : List ℕ) (a : ℕ) → a / 8 < length m → get_or m (a / 8) 0 < 256 →
    mark_count m a (8 * length m - a) ≡ ones (get_or m (a / 8) 0 / 2 ^ (a % 8)) + mark_count m (8 * (a / 8 + 1)) (8 * length m - 8 * (a / 8 + 1))
rest_split m a l f =
    let e : 8 * length m - a ≡ 8 - a % 8 + (8 * length m - 8 * (a / 8 + 1)) = omega arith in
    let s : a ≡ 8 * (a / 8) + a % 8 = omega arith in
    let g : a + (8 - a % 8) ≡ 8 * (a / 8 + 1) = omega arith in
    ap (mark_count m a) e
    ∙ mark_count_split m a (8 - a % 8) (8 * length m - 8 * (a / 8 + 1))
    ∙ ap₂ ◌+◌ (ap (λ x. mark_count m x (8 - a % 8)) s ∙ byte_rest m (a / 8) (8 - a % 8) (a % 8) (omega arith) f)
    (ap (λ x. mark_count m x (8 * length m - 8 * (a / 8 + 1))) g)

pub none_past : (m : List ℕ) (a : ℕ) → 8 * length m ≤ a → none_from m a ≡ true
unfolding none_from
none_past m a h =
    let e : 8 * length m - a ≡ 0 = omega arith in
    eq-eqb (mark_count m a (8 * length m - a)) 0 (ap (mark_count m a) e ∙ mark_count_none m a)

-- from place a on, where the rest of its byte is 0: the same as from the next byte on
pub none_clear : (m : List ℕ) (a : ℕ) → a / 8 < length m → get_or m (a / 8) 0 < 256 → get_or m (a / 8) 0 / 2 ^ (a % 8) ≡ 0 →
    none_from m (8 * (a / 8 + 1)) ≡ none_from m a
unfolding none_from
none_clear m a l f e =
    let z : ones (get_or m (a / 8) 0 / 2 ^ (a % 8)) ≡ 0 = ap ones e ∙ ones_zero in
    let s = rest_split m a l f in
    let g : mark_count m (8 * (a / 8 + 1)) (8 * length m - 8 * (a / 8 + 1)) ≡ mark_count m a (8 * length m - a) = omega arith in
    ap (λ x. eqb x 0) g

-- where the rest of its byte is not 0, a bit is set
pub none_set : (m : List ℕ) (a : ℕ) → a / 8 < length m → get_or m (a / 8) 0 < 256 → get_or m (a / 8) 0 / 2 ^ (a % 8) ≢ 0 → false ≡ none_from m a
unfolding none_from
none_set m a l f n =
    let s = rest_split m a l f in
    let e : 8 - a % 8 + a % 8 ≡ 8 = omega arith in
    let small : get_or m (a / 8) 0 / 2 ^ (a % 8) < 2 ^ (8 - a % 8) = shr_lt (8 - a % 8) (a % 8) (subst (λ (x : ℕ). get_or m (a / 8) 0 < 2 ^ x) (sym e) f) in
    sym (ne_eqb (mark_count m a (8 * length m - a)) 0 (λ z. n (ones_none (8 - a % 8) (get_or m (a / 8) 0 / 2 ^ (a % 8)) small (omega arith))))

-- what is counted as none has no mark
pub count_none : (m : List ℕ) (a k : ℕ) → mark_count m a k ≡ 0 → (d : ℕ) → d < k → mark m (a + d) ≡ 0
count_none m a zero e d h = absurd (omega arith)
count_none m a (suc k) e d h =
    let s : mark_count m a (suc k) ≡ mark_count m a k + mark m (a + k) = rw (← add-one k) (mark_count_suc m a k) in
    by_cases (ℕ_discrete d k) (λ same. rw same (omega arith)) (λ other. count_none m a k (omega arith) d (omega arith))

pub none_marked : (m : List ℕ) (a : ℕ) → none_from m a ≡ true → (c : ℕ) → a ≤ c → c < 8 * length m → mark m c ≡ 0
unfolding none_from
none_marked m a e c h l =
    let z = eqb-true (mark_count m a (8 * length m - a)) 0 e in
    let s : a + (c - a) ≡ c = omega arith in
    ap (mark m) (sym s) ∙ count_none m a (8 * length m - a) z (c - a) (omega arith)
