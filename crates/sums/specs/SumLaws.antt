-- The row sums section by section: what the exclusive or of slices gives, and that after all sections the table holds the syndromes.
-- Main results: section_sum (a section meets a row in one place), row_sum (a row's syndrome has one symbol of each section), added_more (further sections added),
-- turned_parts and turned_pair (sections turned by their shifts) and both_halves (the top rows and the bottom rows together).
use Rattle.std.specs.Prelude.{◌≡◌, refl, cond, List, [], ◌∷◌, ◌++◌, ltb, length, take, drop, replicate}
use Rattle.std.proofs.Math.Path.{sym, ap, ap₂}
use Rattle.std.proofs.Common.{◌∙◌, subst, mod-lt, suc-mul, zero-mul, mul-le-mul_right, add-mul, add-one, lt-ltb, le-ltb, length-drop, get_or-take, get_or-drop, take_all, length-take-le}
use Rattle.std.proofs.Math.Logic.{inl, inr, ⊎_elim, by_cases}
use Prim.Native.Nat.{ℕ, zero, suc, ◌+◌, ◌-◌, ◌*◌, ◌%◌, ◌≤◌, ◌<◌}
use Rattle.std.proofs.Math.Nat.{mod-eq_of_lt, add-mod_right, sub-zero}
use Rattle.std.proofs.Math.Decide.{dec_lt}
use native.Mathlib.Omega.{arith}
use Rattle.std.proofs.Math.ListN.{get_or, get_or-eq_default}
use Rattle.std.proofs.lemmas.List.{get_or-replicate}
use Rattle.math.specs.Members.{◌∈◌, from, up_to}
use Rattle.math.specs.MembersLaws.{by_test, ∈_from, from_∈, rising_from, rising_distinct, up_to_append, up_to_suc, up_to_∈}
use Rattle.math.specs.Xor.{◌⊕◌, xor, ⊕_zero, ⊕_assoc, zero_⊕}
use Rattle.math.specs.Sums.{xor_over, only}
use Rattle.math.specs.SumsLaws.{only_true, only_false, xor_over_ext, xor_over_append, xor_over_one}
use Rattle.math.proofs.Residues.{back_forth, forth_back}
use Rattle.plan.specs.Layout.{layout, bottom_row}
use Rattle.plan.specs.GoodPlan.{GoodPlan}
use Rattle.code.specs.Places.{Meets, meets}
use Rattle.code.specs.Codewords.{syndrome}
use Rattle.code.proofs.Laws.Basics.{meets_true, true_meets}
use Rattle.tables.specs.Spots.{Stands}
use Rattle.tables.proofs.Spots.{stands_top, stands_bottom}
use Rattle.tables.specs.Sizes.{good_places}
use Rattle.tables.specs.Zeros.{zeros_long}
use Rattle.tables.specs.Sweeps.{Mapped, PartMapped, with_symbol, part_mapped}

-- ---- one slice into another

-- new is old with src added
pub record Xored (old src new : List ℕ) : Type 0 where
  pub long : length new ≡ length old
  pub each : (i : ℕ) → get_or new i 0 ≡ get_or old i 0 ⊕ get_or src i 0

pub xored_all : {old src new : List ℕ} → Mapped (with_symbol src) old new → length src ≡ length old → Xored old src new
xored_all {old} {src} {new} M e =
    record {
      long = M.long;
      each = λ k. by_cases (dec_lt k (length old)) (M.each k)
          (λ n. get_or-eq_default new 0 {n = k} (omega (arith, M.long))
          ∙ sym (ap₂ ◌⊕◌ (get_or-eq_default old 0 {n = k} (omega arith)) (get_or-eq_default src 0 {n = k} (omega arith)) ∙ ⊕_zero 0));
    }

pub xored_mapped : {old src new : List ℕ} → Xored old src new → Mapped (with_symbol src) old new
xored_mapped X = record { long = X.long; each = λ k h. X.each k }

-- ---- sections added

-- x with the symbols at i of the first k sections added; u j i is the symbol of section j there
abbrev pub added : (ℕ → ℕ → ℕ) → ℕ → ℕ → ℕ → ℕ
added u k i x = x ⊕ xor_over (up_to k) (λ j. u j i)

-- the symbols as they stand: those of the top rows
abbrev pub straight : ℕ → List ℕ → ℕ → ℕ → ℕ
straight t block j i = get_or block (j * t + i) 0

-- the symbols turned by the shifts: those of the bottom rows
abbrev pub turned : ℕ → List ℕ → List ℕ → ℕ → ℕ → ℕ
turned t shifts block j i = get_or block (j * t + (i + get_or shifts j 0) % t) 0

-- one section turned by its shift p, and two by theirs
abbrev pub turned_by : ℕ → ℕ → List ℕ → ℕ → ℕ → ℕ
turned_by t p section i x = x ⊕ get_or section ((i + p) % t) 0

abbrev pub turned_two : ℕ → ℕ → ℕ → List ℕ → List ℕ → ℕ → ℕ → ℕ
turned_two t p q a b i x = x ⊕ get_or a ((i + p) % t) 0 ⊕ get_or b ((i + q) % t) 0

-- two slices added
abbrev pub with_two : List ℕ → List ℕ → ℕ → ℕ → ℕ
with_two a b i x = x ⊕ get_or a i 0 ⊕ get_or b i 0

pub added_none : (u : ℕ → ℕ → ℕ) (old : List ℕ) → Mapped (added u 0) old old
unfolding up_to xor_over
added_none u old = record { long = refl; each = λ i h. sym (⊕_zero (get_or old i 0)) }

from_later : (a b k : ℕ) (f : ℕ → ℕ) → xor_over (from (a + b) k) f ≡ xor_over (from b k) (λ m. f (a + m))
unfolding from xor_over
from_later a b zero f = refl
from_later a b (suc k) f =
    let e : suc (a + b) ≡ a + suc b = omega arith in
    ap (λ y. f (a + b) ⊕ xor_over (from y k) f) e ∙ ap (λ y. f (a + b) ⊕ y) (from_later a (suc b) k f)

-- k sections more, w being the symbols of these
pub added_more : (u w : ℕ → ℕ → ℕ) (j k : ℕ) {old mid new : List ℕ} → Mapped (added u j) old mid → Mapped (added w k) mid new
    → ((m i : ℕ) → m < k → i < length old → w m i ≡ u (j + m) i) → Mapped (added u (j + k)) old new
unfolding up_to
added_more u w j k {old} {mid} {new} A B e =
    record {
      long = B.long ∙ A.long;
      each = λ i h.
          let f : ℕ → ℕ = λ c. u c i in
          let z : j + 0 ≡ j = omega arith in
          B.each i (omega (arith, A.long))
          ∙ ap₂ ◌⊕◌ (A.each i h)
          (xor_over_ext (up_to k) (λ m. w m i) (λ m. u (j + m) i) (λ m q. e m i (up_to_∈ k q) h)
          ∙ sym (from_later j 0 k f) ∙ ap (λ y. xor_over (from y k) f) z)
          ∙ ⊕_assoc (get_or old i 0) (xor_over (up_to j) f) (xor_over (from j k) f)
          ∙ ap (λ y. get_or old i 0 ⊕ y) (sym (xor_over_append (up_to j) (from j k) f) ∙ ap (λ y. xor_over y f) (sym (up_to_append j k)));
    }

-- one section and two, as they are added
pub one_added : (u : ℕ → ℕ → ℕ) {old new : List ℕ} → Mapped (λ i x. x ⊕ u 0 i) old new → Mapped (added u 1) old new
unfolding up_to from xor_over
one_added u {old} M = record { long = M.long; each = λ i h. M.each i h ∙ ap (λ y. get_or old i 0 ⊕ y) (sym (⊕_zero (u 0 i))) }

pub two_added : (u : ℕ → ℕ → ℕ) {old new : List ℕ} → Mapped (λ i x. x ⊕ u 0 i ⊕ u 1 i) old new → Mapped (added u 2) old new
unfolding up_to from xor_over
two_added u {old} M = record { long = M.long; each = λ i h. M.each i h ∙ simp (⊕_assoc, ⊕_zero) }

-- no section of several, and one more
pub added_start : (u : ℕ → ℕ → ℕ) (i x : ℕ) → x ≡ added u 0 i x
unfolding up_to from xor_over
added_start u i x = sym (⊕_zero x)

pub added_next : (u : ℕ → ℕ → ℕ) (k i x : ℕ) → added u k i x ⊕ u k i ≡ added u (k + 1) i x
unfolding xor_over
added_next u k i x =
    let f : ℕ → ℕ = λ j. u j i in
    ⊕_assoc x (xor_over (up_to k) f) (u k i)
    ∙ ap (λ y. x ⊕ y) (ap (λ y. xor_over (up_to k) f ⊕ y) (sym (⊕_zero (u k i))) ∙ sym (xor_over_append (up_to k) (k ∷ []) f)
    ∙ ap (λ y. xor_over y f) (sym (up_to_suc k)) ∙ ap (λ y. xor_over (up_to y) f) (sym (add-one k)))

-- the sections from j on, as they are lent
rest_is : (a : ℕ) (block : List ℕ) → take (length block - a) (drop a block) ≡ drop a block
rest_is a block = take_all (length block - a) (drop a block) (rw (length-drop a block) (omega arith))

pub rest_symbol : (t j a m i : ℕ) (block : List ℕ) → a ≡ j * t → straight t (take (length block - a) (drop a block)) m i ≡ straight t block (j + m) i
rest_symbol t j a m i block e =
    let f : a + (m * t + i) ≡ (j + m) * t + i = omega (arith, add-mul j m t) in
    ap (λ y. get_or y (m * t + i) 0) (rest_is a block) ∙ get_or-drop a block (m * t + i) 0 ∙ ap (λ y. get_or block y 0) f

pub rest_long : (n t j a : ℕ) (block : List ℕ) → length block ≡ n * t → j ≤ n → a ≡ j * t → (n - j) * t ≤ length (take (length block - a) (drop a block))
rest_long n t j a block l h e =
    let f : n - j + j ≡ n = omega arith in
    rw (rest_is a block, length-drop a block) (omega (arith, add-mul (n - j) j t, ap (λ y. y * t) f))

pub added_all : (u : ℕ → ℕ → ℕ) {j n : ℕ} {old new : List ℕ} → Mapped (added u j) old new → j ≤ n → n ≤ j → Mapped (added u n) old new
added_all u {j} {n} {old} {new} M h g = let e : j ≡ n = omega arith in subst (λ y. Mapped (added u y) old new) e M

-- k of the sections that are left
pub group_fits : (n t j a k : ℕ) → j ≤ n → k ≤ n - j → a ≡ j * t → a + k * t ≤ n * t
group_fits n t j a k g h e = let f : j + k ≤ n = omega arith in omega (arith, add-mul j k t, mul-le-mul_right t f)

-- what was added by one call: k sections, at least one and no more than are left
pub record Taken (left t : ℕ) (rest old : List ℕ) (k : ℕ) (new : List ℕ) : Type 0 where
  pub some : 0 < k
  pub most : k ≤ left
  pub sums : Mapped (added (straight t rest) k) old new

-- ---- sections turned

-- the symbol at i of a section turned by p: before it begins anew, and after
before_turn : (t p i : ℕ) → i + p < t → (i + p) % t ≡ i + p
before_turn t p i h = mod-eq_of_lt {n = i + p} {m = t} h

after_turn : (t p i d : ℕ) → i + p ≡ d + t → d < t → (i + p) % t ≡ d
after_turn t p i d e h = ap (λ y. y % t) e ∙ add-mod_right d t ∙ mod-eq_of_lt {n = d} {m = t} h

-- a symbol of the part of a section from s to e
part_symbol : (section part : List ℕ) (s e d o : ℕ) → part ≡ take (e - s) (drop s section) → d < e - s → s + d ≡ o → get_or part d 0 ≡ get_or section o 0
part_symbol section part s e d o q h f =
    ap (λ y. get_or y d 0) q ∙ get_or-take (e - s) (drop s section) d 0 h ∙ get_or-drop s section d 0 ∙ ap (λ y. get_or section y 0) f

-- one section: the part from p on, then the part before p
pub turned_parts : (t p : ℕ) (section high low old part₁ mid part₂ new : List ℕ) → p < t → length old ≡ t
    → high ≡ take (t - p) (drop p section) → low ≡ take (p - 0) (drop 0 section)
    → mid ≡ take 0 old ++ (part₁ ++ drop (t - p - 0) (drop 0 old)) → Xored (take (t - p - 0) (drop 0 old)) high part₁
    → new ≡ take (t - p) mid ++ (part₂ ++ drop (t - (t - p)) (drop (t - p) mid)) → Xored (take (t - (t - p)) (drop (t - p) mid)) low part₂
    → Mapped (turned_by t p section) old new
turned_parts t p section high low old part₁ mid part₂ new hp l eh el q₁ X₁ q₂ X₂ =
    record {
      long = B.long ∙ A.long;
      each = λ i h. by_cases (dec_lt i (t - p)) (λ k. at_high i (i - 0) (omega arith) k) (λ k. at_low i (i - (t - p)) (omega arith) (omega arith) (omega arith));
    }
  where
    A : PartMapped (with_symbol high) 0 (t - p) old mid
    A = part_mapped 0 (t - p) old part₁ mid (omega arith) (omega arith) q₁ (xored_mapped X₁)

    B : PartMapped (with_symbol low) (t - p) t mid new
    B = part_mapped (t - p) t mid part₂ new (omega arith) (omega (arith, A.long)) q₂ (xored_mapped X₂)

    at_high : (i d : ℕ) → p + d ≡ i + p → i < t - p → get_or new i 0 ≡ turned_by t p section i (get_or old i 0)
    at_high i d e k =
        B.before i k ∙ A.inside i (omega arith) k
        ∙ ap (λ y. get_or old i 0 ⊕ y) (part_symbol section high p t (i - 0) ((i + p) % t) eh (omega arith) (omega (arith, before_turn t p i (omega arith))))

    at_low : (i d : ℕ) → i + p ≡ d + t → t - p ≤ i → i < t → get_or new i 0 ≡ turned_by t p section i (get_or old i 0)
    at_low i d e k h =
        B.inside i k h
        ∙ ap₂ ◌⊕◌ (A.after i k) (part_symbol section low 0 p (i - (t - p)) ((i + p) % t) el (omega arith) (omega (arith, after_turn t p i d e (omega arith))))

-- two sections: the part before b begins anew, the part before a does, and the rest
pub turned_pair : (t p q : ℕ) (a b a₁ b₁ a₂ b₂ a₃ b₃ old part₁ mid₁ part₂ mid₂ part₃ new : List ℕ) → p ≤ q → q < t → length old ≡ t
    → a₁ ≡ take (t - (q - p) - p) (drop p a) → b₁ ≡ take (t - q) (drop q b)
    → mid₁ ≡ take 0 old ++ (part₁ ++ drop (t - q - 0) (drop 0 old)) → Mapped (with_two a₁ b₁) (take (t - q - 0) (drop 0 old)) part₁
    → a₂ ≡ take (t - (t - (q - p))) (drop (t - (q - p)) a) → b₂ ≡ take (q - p - 0) (drop 0 b)
    → mid₂ ≡ take (t - q) mid₁ ++ (part₂ ++ drop (t - p - (t - q)) (drop (t - q) mid₁)) → Mapped (with_two a₂ b₂) (take (t - p - (t - q)) (drop (t - q) mid₁)) part₂
    → a₃ ≡ take (p - 0) (drop 0 a) → b₃ ≡ take (q - (q - p)) (drop (q - p) b)
    → new ≡ take (t - p) mid₂ ++ (part₃ ++ drop (t - (t - p)) (drop (t - p) mid₂)) → Mapped (with_two a₃ b₃) (take (t - (t - p)) (drop (t - p) mid₂)) part₃
    → Mapped (turned_two t p q a b) old new
turned_pair t p q a b a₁ b₁ a₂ b₂ a₃ b₃ old part₁ mid₁ part₂ mid₂ part₃ new pq qt l ea₁ eb₁ e₁ M₁ ea₂ eb₂ e₂ M₂ ea₃ eb₃ e₃ M₃ =
    record {
      long = C.long ∙ B.long ∙ A.long;
      each = λ i h. by_cases (dec_lt i (t - q)) (λ k. at_first i k)
          (λ k. by_cases (dec_lt i (t - p)) (λ m. at_second i (i - (t - q)) (omega arith) (omega arith) m) (λ m. at_third i (i - (t - p)) (i - (t - q)) (omega arith) (omega arith) (omega arith) (omega arith)));
    }
  where
    A : PartMapped (with_two a₁ b₁) 0 (t - q) old mid₁
    A = part_mapped 0 (t - q) old part₁ mid₁ (omega arith) (omega arith) e₁ M₁

    B : PartMapped (with_two a₂ b₂) (t - q) (t - p) mid₁ mid₂
    B = part_mapped (t - q) (t - p) mid₁ part₂ mid₂ (omega arith) (omega (arith, A.long)) e₂ M₂

    C : PartMapped (with_two a₃ b₃) (t - p) t mid₂ new
    C = part_mapped (t - p) t mid₂ part₃ new (omega arith) (omega (arith, A.long, B.long)) e₃ M₃

    at_first : (i : ℕ) → i < t - q → get_or new i 0 ≡ turned_two t p q a b i (get_or old i 0)
    at_first i k =
        C.before i (omega arith) ∙ B.before i k ∙ A.inside i (omega arith) k
        ∙ ap₂ (λ y z. get_or old i 0 ⊕ y ⊕ z)
        (part_symbol a a₁ p (t - (q - p)) (i - 0) ((i + p) % t) ea₁ (omega arith) (omega (arith, before_turn t p i (omega arith))))
        (part_symbol b b₁ q t (i - 0) ((i + q) % t) eb₁ (omega arith) (omega (arith, before_turn t q i (omega arith))))

    at_second : (i d : ℕ) → i + q ≡ d + t → t - q ≤ i → i < t - p → get_or new i 0 ≡ turned_two t p q a b i (get_or old i 0)
    at_second i d e k m =
        C.before i m ∙ B.inside i k m ∙ ap (λ y. y ⊕ get_or a₂ (i - (t - q)) 0 ⊕ get_or b₂ (i - (t - q)) 0) (A.after i k)
        ∙ ap₂ (λ y z. get_or old i 0 ⊕ y ⊕ z)
        (part_symbol a a₂ (t - (q - p)) t (i - (t - q)) ((i + p) % t) ea₂ (omega arith) (omega (arith, before_turn t p i (omega arith))))
        (part_symbol b b₂ 0 (q - p) (i - (t - q)) ((i + q) % t) eb₂ (omega arith) (omega (arith, after_turn t q i d e (omega arith))))

    at_third : (i c d : ℕ) → i + p ≡ c + t → i + q ≡ d + t → t - p ≤ i → i < t → get_or new i 0 ≡ turned_two t p q a b i (get_or old i 0)
    at_third i c d e f k m =
        C.inside i k m ∙ ap (λ y. y ⊕ get_or a₃ (i - (t - p)) 0 ⊕ get_or b₃ (i - (t - p)) 0) (B.after i k ∙ A.after i (omega arith))
        ∙ ap₂ (λ y z. get_or old i 0 ⊕ y ⊕ z)
        (part_symbol a a₃ 0 p (i - (t - p)) ((i + p) % t) ea₃ (omega arith) (omega (arith, after_turn t p i c e (omega arith))))
        (part_symbol b b₃ (q - p) q (i - (t - p)) ((i + q) % t) eb₃ (omega arith) (omega (arith, after_turn t q i d f (omega arith))))

-- parts of one length
same_long : (l m : List ℕ) (s e r f : ℕ) → e ≤ length l → f ≤ length m → e - s ≡ f - r → length (take (e - s) (drop s l)) ≡ length (take (f - r) (drop r m))
same_long l m s e r f h k q =
    length-take-le (e - s) (drop s l) (rw (length-drop s l) (omega arith)) ∙ q ∙ sym (length-take-le (f - r) (drop r m) (rw (length-drop r m) (omega arith)))

left_over : (t d : ℕ) → d ≤ t → t - (t - d) ≡ d
left_over t d h = omega arith

apart : (t p q : ℕ) → p ≤ q → q < t → t - p - (t - q) ≡ q - p
apart t p q h k = omega arith

pub second_long : (t p q : ℕ) (a b m : List ℕ) → p ≤ q → q < t → length a ≡ t → length b ≡ t → length m ≡ t
    → (length (take (t - (t - (q - p))) (drop (t - (q - p)) a)) ≡ length (take (t - p - (t - q)) (drop (t - q) m)))
    × (length (take (q - p - 0) (drop 0 b)) ≡ length (take (t - p - (t - q)) (drop (t - q) m)))
second_long t p q a b m pq qt la lb lm = (
  same_long a m (t - (q - p)) t (t - q) (t - p) (omega arith) (omega arith) (left_over t (q - p) (omega arith) ∙ sym (apart t p q pq qt)),
  same_long b m 0 (q - p) (t - q) (t - p) (omega arith) (omega arith) (sub-zero (q - p) ∙ sym (apart t p q pq qt)),
)

pub third_long : (t p q : ℕ) (a b m : List ℕ) → p ≤ q → q < t → length a ≡ t → length b ≡ t → length m ≡ t
    → (length (take (p - 0) (drop 0 a)) ≡ length (take (t - (t - p)) (drop (t - p) m)))
    × (length (take (q - (q - p)) (drop (q - p) b)) ≡ length (take (t - (t - p)) (drop (t - p) m)))
third_long t p q a b m pq qt la lb lm = (
  same_long a m 0 p (t - p) t (omega arith) (omega arith) (sub-zero p ∙ sym (left_over t p (omega arith))),
  same_long b m (q - p) q (t - p) t (omega arith) (omega arith) (left_over q p pq ∙ sym (left_over t p (omega arith))),
)

pub turned_swapped : (t p q : ℕ) (a b : List ℕ) {old new : List ℕ} → Mapped (turned_two t q p b a) old new → Mapped (turned_two t p q a b) old new
turned_swapped t p q a b {old} M = record { long = M.long; each = λ i h. M.each i h ∙ simp xor }

-- section j of the block turned by its shift
pub turned_symbol : (t j : ℕ) (shifts block section : List ℕ) (i : ℕ) → 0 < t → section ≡ take t (drop (j * t) block)
    → get_or section ((i + get_or shifts j 0) % t) 0 ≡ turned t shifts block j i
turned_symbol t j shifts block section i ht e =
    let o : ℕ = (i + get_or shifts j 0) % t in
    ap (λ y. get_or y o 0) e ∙ get_or-take t (drop (j * t) block) o 0 (mod-lt (i + get_or shifts j 0) ht) ∙ get_or-drop (j * t) block o 0

-- what was added by one call of the sections from j on: k of them, at least one and no more than are left
pub record Turns (n t : ℕ) (shifts block : List ℕ) (j : ℕ) (old : List ℕ) (k : ℕ) (new : List ℕ) : Type 0 where
  pub some : 0 < k
  pub most : j + k ≤ n
  pub sums : {first : List ℕ} → Mapped (added (turned t shifts block) j) first old → Mapped (added (turned t shifts block) (j + k)) first new

module _ (n t j : ℕ) (shifts block : List ℕ) (ht : 0 < t) {old new : List ℕ} where
  pub turns_one : (section : List ℕ) → j < n → section ≡ take t (drop (j * t) block) → Mapped (turned_by t (get_or shifts j 0) section) old new
      → Turns n t shifts block j old 1 new
  turns_one section h e M =
      let w : ℕ → ℕ → ℕ = λ m i. get_or section ((i + get_or shifts j 0) % t) 0 in
      record {
        some = omega arith;
        most = omega arith;
        sums = λ A. added_more (turned t shifts block) w j 1 A (one_added w M)
            (λ m i l k. let z : j ≡ j + m = omega arith in turned_symbol t j shifts block section i ht e ∙ ap (λ y. turned t shifts block y i) z);
      }

  pub turns_two : (a b : List ℕ) → j + 1 < n → a ≡ take t (drop (j * t) block) → b ≡ take t (drop ((j + 1) * t) block)
      → Mapped (turned_two t (get_or shifts j 0) (get_or shifts (j + 1) 0) a b) old new → Turns n t shifts block j old 2 new
  turns_two a b h ea eb M =
      let w : ℕ → ℕ → ℕ = λ m i. turned t shifts block (j + m) i in
      record {
        some = omega arith;
        most = omega arith;
        sums = λ A. added_more (turned t shifts block) w j 2 A
            (two_added w (record {
              long = M.long;
              each = λ i l.
                  let z : j ≡ j + 0 = omega arith in
                  M.each i l
                  ∙ ap₂ (λ y z. get_or old i 0 ⊕ y ⊕ z)
                  (turned_symbol t j shifts block a i ht ea ∙ ap (λ y. turned t shifts block y i) z) (turned_symbol t (j + 1) shifts block b i ht eb);
            }))
            (λ m i l k. refl);
      }

-- ---- the places of a section

-- the offset at which a section with shift p meets row r
unfoldable pub offset_on : ℕ → ℕ → ℕ → ℕ
offset_on t p r = cond (ltb r t) r ((r - t + p) % t)

pub offset_top : (t p : ℕ) {r : ℕ} → r < t → offset_on t p r ≡ r
unfolding offset_on
offset_top t p {r} h = rw (lt-ltb r t h)

pub offset_bottom : (t p : ℕ) {r : ℕ} → t ≤ r → offset_on t p r ≡ (r - t + p) % t
unfolding offset_on
offset_bottom t p {r} h = rw (le-ltb r t h)

module _ {n t : ℕ} {shifts : List ℕ} (s : GoodPlan n t shifts) where
  offset_small : (p r : ℕ) → offset_on t p r < t
  offset_small p r =
      by_cases (dec_lt r t)
      (λ h. rw (offset_top t p h) h)
      (λ h. let g : t ≤ r = omega arith in rw (offset_bottom t p g) (mod-lt (r - t + p) s.t_min))

  -- the place of section j on row r, and no other
  on_row : (j r : ℕ) → j < n → r < 2 * t → Meets (layout n t shifts) (j * t + offset_on t (get_or shifts j 0) r) r
  unfolding bottom_row
  on_row j r hj hr =
      let p : ℕ = get_or shifts j 0 in
      let st : Stands t (j * t + offset_on t p r) j (offset_on t p r) = record { whole = refl; within = offset_small p r } in
      let hp = s.below j hj in
      by_cases (dec_lt r t)
      (λ h. inl (sym (stands_top st n shifts ∙ offset_top t p h)))
      (λ h.
      let g : t ≤ r = omega arith in
      let e : (r - t) % t ≡ r - t = mod-eq_of_lt {n = r - t} {m = t} (omega arith) in
      let f : t + (r - t) ≡ r = omega arith in
      inr (sym (stands_bottom st n shifts ∙ ap (bottom_row t p) (offset_bottom t p g)
      ∙ ap (λ y. t + y) (forth_back {t = t} {p = p} (r - t) (omega arith) ∙ e) ∙ f)))

  one_offset : (j k r : ℕ) → j < n → k < t → Meets (layout n t shifts) (j * t + k) r → k ≡ offset_on t (get_or shifts j 0) r
  unfolding bottom_row
  one_offset j k r hj hk m =
      let p : ℕ = get_or shifts j 0 in
      let st : Stands t (j * t + k) j k = record { whole = refl; within = hk } in
      let hp = s.below j hj in
      ⊎_elim
      (λ e.
      let q : r ≡ k = e ∙ stands_top st n shifts in
      rw q (sym (offset_top t p hk)))
      (λ e.
      let q : r ≡ t + (k + t - p) % t = e ∙ stands_bottom st n shifts in
      let f : r - t ≡ (k + t - p) % t = omega arith in
      sym (offset_bottom t p {r = r} (omega arith) ∙ ap (λ y. (y + p) % t) f ∙ back_forth {t = t} {p = p} k (omega arith) ∙ mod-eq_of_lt hk))
      m

  pub section_sum : (j r : ℕ) (u : ℕ → ℕ) → j < n → r < 2 * t
      → xor_over (from (j * t) t) (λ c. only (meets (layout n t shifts) c r) (u c)) ≡ u (j * t + offset_on t (get_or shifts j 0) r)
  section_sum j r u hj hr =
      let L = layout n t shifts in
      let o : ℕ = offset_on t (get_or shifts j 0) r in
      let ho : o < t = offset_small (get_or shifts j 0) r in
      xor_over_one (λ c. only (meets L c r) (u c)) (rising_distinct (rising_from (j * t) t)) (∈_from (j * t) t (omega arith) (omega arith))
      (λ c m ne. only_false (u c) (by_test (meets L c r) (λ y. absurd (ne (place_of c m (true_meets L c r y)))) (λ f. f)))
      ∙ only_true (u (j * t + o)) (meets_true L (j * t + o) (on_row j r hj hr))
    where
      place_of : (c : ℕ) → c ∈ from (j * t) t → Meets (layout n t shifts) c r → c ≡ j * t + offset_on t (get_or shifts j 0) r
      place_of c m h =
          let b = from_∈ (j * t) t m in
          let e : j * t + (c - j * t) ≡ c = omega arith in
          sym e ∙ ap (λ k. j * t + k) (one_offset j (c - j * t) r hj (omega arith) (rw e h))

  -- a row's syndrome has one symbol of each section
  sums_to : (v : ℕ → ℕ) (r : ℕ) → r < 2 * t → (j : ℕ) → j ≤ n
      → xor_over (up_to (j * t)) (λ c. only (meets (layout n t shifts) c r) (v c)) ≡ xor_over (up_to j) (λ k. v (k * t + offset_on t (get_or shifts k 0) r))
  unfolding up_to from xor_over
  sums_to v r h zero l = rw (zero-mul t)
  sums_to v r h (suc j) l =
      let f : ℕ → ℕ = λ c. only (meets (layout n t shifts) c r) (v c) in
      let g : ℕ → ℕ = λ k. v (k * t + offset_on t (get_or shifts k 0) r) in
      ap (λ y. xor_over (up_to y) f) (suc-mul j t) ∙ ap (λ y. xor_over y f) (up_to_append (j * t) t) ∙ xor_over_append (up_to (j * t)) (from (j * t) t) f
      ∙ ap₂ ◌⊕◌ (sums_to v r h j (omega arith)) (section_sum j r v (omega arith) h ∙ sym (⊕_zero (g j)))
      ∙ sym (ap (λ y. xor_over y g) (up_to_suc j) ∙ xor_over_append (up_to j) (j ∷ []) g)

  pub row_sum : (v : ℕ → ℕ) (r : ℕ) → r < 2 * t → syndrome (layout n t shifts) v r ≡ xor_over (up_to n) (λ j. v (j * t + offset_on t (get_or shifts j 0) r))
  unfolding syndrome
  row_sum v r h = ap (λ y. xor_over y (λ c. only (meets (layout n t shifts) c r) (v c))) (good_places s) ∙ sums_to v r h n (omega arith)

-- ---- all sections

pub one_more : (j t : ℕ) → (j + 1) * t ≡ j * t + t
one_more j t = ap (λ y. y * t) (add-one j) ∙ suc-mul j t

-- section j of a block
pub section_fits : (n t j a : ℕ) → j < n → a ≡ j * t → a + t ≤ n * t
section_fits n t j a h e = let f : j + 1 ≤ n = omega arith in omega (arith, one_more j t, mul-le-mul_right t f)

pub section_part : (t j a : ℕ) (block : List ℕ) → a ≡ j * t → take (a + t - a) (drop a block) ≡ take t (drop (j * t) block)
section_part t j a block e = let f : a + t - a ≡ t = omega arith in rw (f, e)

pub sections_fit : (n t j a : ℕ) → j + 1 < n → a ≡ j * t → a + t + t ≤ n * t
sections_fit n t j a h e = let f : j + 2 ≤ n = omega arith in omega (arith, add-mul j 2 t, mul-le-mul_right t f)

pub section_long : (t a : ℕ) (block : List ℕ) → a + t ≤ length block → length (take (a + t - a) (drop a block)) ≡ t
section_long t a block h = length-take-le (a + t - a) (drop a block) (rw (length-drop a block) (omega arith)) ∙ let f : a + t - a ≡ t = omega arith in f

-- the table holds the syndromes of the block
pub record Syndromes (n t : ℕ) (shifts block sum : List ℕ) : Type 0 where
  pub long : length sum ≡ 2 * t
  pub each : (r : ℕ) → r < 2 * t → get_or sum r 0 ≡ syndrome (layout n t shifts) (λ c. get_or block c 0) r

-- the top rows, then the bottom rows
pub both_halves : (n t : ℕ) (shifts block sum part₁ mid part₂ new : List ℕ) → GoodPlan n t shifts → sum ≡ replicate (2 * t) 0
    → mid ≡ take 0 sum ++ (part₁ ++ drop (t - 0) (drop 0 sum)) → Mapped (added (straight t block) n) (take (t - 0) (drop 0 sum)) part₁
    → new ≡ take t mid ++ (part₂ ++ drop (2 * t - t) (drop t mid)) → Mapped (added (turned t shifts block) n) (take (2 * t - t) (drop t mid)) part₂
    → Syndromes n t shifts block new
both_halves n t shifts block sum part₁ mid part₂ new s e q₁ M₁ q₂ M₂ =
    record {
      long = B.long ∙ A.long ∙ zeros_long t sum e;
      each = λ r h. by_cases (dec_lt r t) (λ k. at_top r h k) (λ k. at_bottom r h (omega arith));
    }
  where
    v : ℕ → ℕ
    v c = get_or block c 0

    A : PartMapped (added (straight t block) n) 0 t sum mid
    A = part_mapped 0 t sum part₁ mid (omega arith) (omega (arith, zeros_long t sum e)) q₁ M₁

    B : PartMapped (added (turned t shifts block) n) t (2 * t) mid new
    B = part_mapped t (2 * t) mid part₂ new (omega arith) (omega (arith, zeros_long t sum e, A.long)) q₂ M₂

    start : (r : ℕ) → r < 2 * t → get_or sum r 0 ≡ 0
    start r h = ap (λ y. get_or y r 0) e ∙ get_or-replicate (2 * t) r 0 0 h

    at_top : (r : ℕ) → r < 2 * t → r < t → get_or new r 0 ≡ syndrome (layout n t shifts) v r
    at_top r h k =
        let f : r - 0 ≡ r = omega arith in
        B.before r k ∙ A.inside r (omega arith) k ∙ ap₂ (λ y z. y ⊕ xor_over (up_to n) (λ j. v (j * t + z))) (start r h) f
        ∙ zero_⊕ (xor_over (up_to n) (λ j. v (j * t + r)))
        ∙ sym (row_sum s v r h
        ∙ xor_over_ext (up_to n) (λ j. v (j * t + offset_on t (get_or shifts j 0) r)) (λ j. v (j * t + r)) (λ j m. ap (λ y. v (j * t + y)) (offset_top t (get_or shifts j 0) k)))

    at_bottom : (r : ℕ) → r < 2 * t → t ≤ r → get_or new r 0 ≡ syndrome (layout n t shifts) v r
    at_bottom r h k =
        B.inside r k h ∙ ap (λ y. y ⊕ xor_over (up_to n) (λ j. v (j * t + (r - t + get_or shifts j 0) % t))) (A.after r k ∙ start r h)
        ∙ zero_⊕ (xor_over (up_to n) (λ j. v (j * t + (r - t + get_or shifts j 0) % t)))
        ∙ sym (row_sum s v r h
        ∙ xor_over_ext (up_to n) (λ j. v (j * t + offset_on t (get_or shifts j 0) r)) (λ j. v (j * t + (r - t + get_or shifts j 0) % t))
        (λ j m. ap (λ y. v (j * t + y)) (offset_bottom t (get_or shifts j 0) k)))
