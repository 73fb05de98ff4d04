-- Laws of lists of numbers as finite sets: the test for membership, ranges, selection (`keep`, `without`), rising and distinct lists.
-- Main results: rising_ext (rising lists with the same members are equal), keep_split, length_without.
-- Counting, indices and search are in Pigeonhole.
use Rattle.std.specs.Prelude.{◌≡◌, refl, Bool, true, false, not, ◌&&◌, ◌≢◌, List, [], ◌∷◌, ◌++◌, ℕ, zero, suc, ◌+◌, ◌≤◌, ◌<◌, eqb, length, get_or}
use Rattle.std.proofs.Common.{sym, ap, ap₂, ◌∙◌, true≢false, ⊎_elim, zero-add, add-zero, suc-add, lt_irrefl, add-one, arith, eqb-true, eq-eqb, ne_eqb}
use Rattle.std.proofs.Math.Bool.{or-true}
use Rattle.std.proofs.Math.Logic.{by_cases}
use mathlib.Core.List.Memᴰ
use mathlib.Core.List.Memᴰ.{head as here}
use mathlib.Core.List.Memᴰ.{tail as there}
use Rattle.std.proofs.Math.Decide.{ℕ_discrete}
use Rattle.std.proofs.lemmas.Bool.{eqb-false, not-true}
use Rattle.math.specs.Members.{◌∈◌, is_in, from, up_to, keep, without, Rising, rising_none, rising_more, Distinct, distinct_none, distinct_more}

-- a test is true or false
pub by_test : {C : Type 0} (b : Bool) → (b ≡ true → C) → (b ≡ false → C) → C
by_test true f g = f refl
by_test false f g = g refl

-- a member is the head or in the tail
pub by_place : {C : Type 0} {c x : ℕ} {l : List ℕ} → c ∈ (x ∷ l) → (c ≡ x → C) → (c ∈ l → C) → C
by_place m f g = ⊎_elim f g (Memᴰ.cases_cons m)

pub is_in_∈ : (c : ℕ) (l : List ℕ) → is_in c l ≡ true → c ∈ l
unfolding is_in
is_in_∈ c [] h = absurd (true≢false (sym h))
is_in_∈ c (d ∷ l) h = by_test (eqb c d) (λ t. here (eqb-true c d t)) (λ f. there (is_in_∈ c l (rw f at h)))

pub ∈_is_in : {c : ℕ} {l : List ℕ} → c ∈ l → is_in c l ≡ true
unfolding is_in
∈_is_in {c} (here {x = x} e) = rw (eq-eqb c x e)
∈_is_in {c} (there {x = x} m) = rw (∈_is_in m) (or-true (eqb c x))

pub is_in_∉ : (c : ℕ) (l : List ℕ) → is_in c l ≡ false → ¬ (c ∈ l)
is_in_∉ c l h m = true≢false (sym (∈_is_in m) ∙ h)

pub ∉_is_in : {c : ℕ} {l : List ℕ} → ¬ (c ∈ l) → is_in c l ≡ false
∉_is_in {c} {l} n = by_test (is_in c l) (λ t. absurd (n (is_in_∈ c l t))) (λ f. f)

pub dec_in : (c : ℕ) (l : List ℕ) → Dec (c ∈ l)
dec_in c l = by_test (is_in c l) (λ t. yes (is_in_∈ c l t)) (λ f. no (is_in_∉ c l f))

pub ∈_from : (a k : ℕ) {c : ℕ} → a ≤ c → c < a + k → c ∈ from a k
unfolding from
∈_from a zero h g = absurd (omega arith)
∈_from a (suc k) {c} h g = by_cases (ℕ_discrete c a) (λ e. here e) (λ n. there (∈_from (suc a) k (omega arith) (omega arith)))

pub from_∈ : (a k : ℕ) {c : ℕ} → c ∈ from a k → (a ≤ c) × (c < a + k)
unfolding from
from_∈ a zero m = absurd (Memᴰ.not-nil m)
from_∈ a (suc k) m = by_place m (λ e. omega arith) (λ m'. let h = from_∈ (suc a) k m' in omega arith)

pub length_from : (a k : ℕ) → length (from a k) ≡ k
unfolding from
length_from a zero = refl
length_from a (suc k) = ap suc (length_from (suc a) k)

pub get_or_from : (a k : ℕ) {i : ℕ} → i < k → get_or (from a k) i 0 ≡ a + i
unfolding from
get_or_from a zero h = absurd (omega arith)
get_or_from a (suc k) {i = zero} h = omega arith
get_or_from a (suc k) {i = suc i} h = let e : get_or (from (suc a) k) i 0 ≡ suc a + i = get_or_from (suc a) k (omega arith) in omega arith

pub rising_from : (a k : ℕ) → Rising (from a k)
unfolding from
rising_from a zero = rising_none
rising_from a (suc k) = rising_more (λ d m. (from_∈ (suc a) k m).0) (rising_from (suc a) k)

pub from_append : (a j k : ℕ) → from a (j + k) ≡ from a j ++ from (a + j) k
unfolding from
from_append a zero k = simp (zero-add, add-zero)
from_append a (suc j) k =
    let e : a + suc j ≡ suc a + j = omega arith in
    rw (suc-add, e) (ap {B = List ℕ} (λ l. a ∷ l) (from_append (suc a) j k))

pub ∈_up_to : {c n : ℕ} → c < n → c ∈ up_to n
unfolding up_to
∈_up_to {n} h = ∈_from 0 n (omega arith) (omega arith)

pub up_to_∈ : (n : ℕ) {c : ℕ} → c ∈ up_to n → c < n
unfolding up_to
up_to_∈ n m = let h = from_∈ 0 n m in omega arith

pub length_up_to : (n : ℕ) → length (up_to n) ≡ n
unfolding up_to
length_up_to n = length_from 0 n

pub get_or_up_to : {i n : ℕ} → i < n → get_or (up_to n) i 0 ≡ i
unfolding up_to
get_or_up_to {i} {n} h = get_or_from 0 n h ∙ zero-add i

pub rising_up_to : (n : ℕ) → Rising (up_to n)
unfolding up_to
rising_up_to n = rising_from 0 n

pub up_to_append : (j k : ℕ) → up_to (j + k) ≡ up_to j ++ from j k
unfolding up_to
up_to_append j k = from_append 0 j k ∙ simp zero-add

pub up_to_suc : (n : ℕ) → up_to (suc n) ≡ up_to n ++ (n ∷ [])
unfolding from
up_to_suc n = rw (← (add-one n)) (up_to_append n 1)

-- what holds of both outcomes of the test of c holds of the selection
pub keep_step : (p : ℕ → Bool) (c : ℕ) (l : List ℕ) (P : List ℕ → Type 0)
    → (p c ≡ true → P (c ∷ keep p l)) → (p c ≡ false → P (keep p l)) → P (keep p (c ∷ l))
unfolding keep
keep_step p c l P y n = by_test (p c) (λ t. rw t (y t)) (λ f. rw f (n f))

pub ∈_keep : (p : ℕ → Bool) {c : ℕ} {l : List ℕ} → c ∈ l → p c ≡ true → c ∈ keep p l
∈_keep p {c} (here {x = x} {xs = xs} e) t =
    keep_step p x xs (λ k. c ∈ k) (λ _. here e) (λ f. absurd (true≢false (sym t ∙ ap p e ∙ f)))
∈_keep p {c} (there {x = x} {xs = xs} m) t = keep_step p x xs (λ k. c ∈ k) (λ _. there (∈_keep p m t)) (λ _. ∈_keep p m t)

pub keep_∈ : (p : ℕ → Bool) (l : List ℕ) {c : ℕ} → c ∈ keep p l → (c ∈ l) × (p c ≡ true)
unfolding keep
keep_∈ p [] m = absurd (Memᴰ.not-nil m)
keep_∈ p (x ∷ l) {c} i = keep_step p x l (λ k. c ∈ k → (c ∈ (x ∷ l)) × (p c ≡ true))
    (λ t m. by_place m (λ e. (here e, ap p e ∙ t)) (λ m'. let h = keep_∈ p l m' in (there h.0, h.1)))
    (λ f m. let h = keep_∈ p l m in (there h.0, h.1))
    i

pub keep_append : (p : ℕ → Bool) (l m : List ℕ) → keep p (l ++ m) ≡ keep p l ++ keep p m
unfolding keep
keep_append p [] m = refl
keep_append p (c ∷ l) m = by_test (p c) (λ t. rw (t, keep_append p l m)) (λ f. rw (f, keep_append p l m))

-- tests that agree on the members select the same
pub keep_ext : (p q : ℕ → Bool) (l : List ℕ) → ((c : ℕ) → c ∈ l → p c ≡ q c) → keep p l ≡ keep q l
unfolding keep
keep_ext p q [] h = refl
keep_ext p q (c ∷ l) h = rw (h c (here refl), keep_ext p q l (λ d m. h d (there m)))

pub keep_all : (p : ℕ → Bool) (l : List ℕ) → ((c : ℕ) → c ∈ l → p c ≡ true) → keep p l ≡ l
unfolding keep
keep_all p [] h = refl
keep_all p (c ∷ l) h = rw (h c (here refl), keep_all p l (λ d m. h d (there m)))

pub keep_none : (p : ℕ → Bool) (l : List ℕ) → ((c : ℕ) → c ∈ l → p c ≡ false) → keep p l ≡ []
unfolding keep
keep_none p [] h = refl
keep_none p (c ∷ l) h = rw (h c (here refl), keep_none p l (λ d m. h d (there m)))

pub rising_keep : (p : ℕ → Bool) {l : List ℕ} → Rising l → Rising (keep p l)
unfolding keep
rising_keep p rising_none = rising_none
rising_keep p (rising_more {c = c} {cs = cs} h r) =
    keep_step p c cs Rising (λ _. rising_more (λ d m. h d (keep_∈ p cs m).0) (rising_keep p r)) (λ _. rising_keep p r)

pub distinct_keep : (p : ℕ → Bool) {l : List ℕ} → Distinct l → Distinct (keep p l)
unfolding keep
distinct_keep p distinct_none = distinct_none
distinct_keep p (distinct_more {c = c} {cs = cs} n r) =
    keep_step p c cs Distinct (λ _. distinct_more (λ m. n (keep_∈ p cs m).0) (distinct_keep p r)) (λ _. distinct_keep p r)

pub keep_split : (p : ℕ → Bool) (l : List ℕ) → length (keep p l) + length (keep (λ c. not (p c)) l) ≡ length l
unfolding keep
keep_split p [] = refl
keep_split p (c ∷ l) =
    by_test (p c) (λ t. rw t (omega (arith, keep_split p l))) (λ f. rw f (omega (arith, keep_split p l)))

pub length_keep_le : (p : ℕ → Bool) (l : List ℕ) → length (keep p l) ≤ length l
length_keep_le p l = omega (arith, keep_split p l)

-- a member that fails makes the selection shorter
pub length_keep_lt : (p : ℕ → Bool) {c : ℕ} {l : List ℕ} → c ∈ l → p c ≡ false → length (keep p l) < length l
unfolding keep
length_keep_lt p (here {x = x} {xs = xs} e) f = rw (sym (ap p e) ∙ f) (omega (arith, length_keep_le p xs))
length_keep_lt p (there {x = x} {xs = xs} m) f =
    let h = length_keep_lt p m f in
    keep_step p x xs (λ k. length k < suc (length xs)) (λ _. omega arith) (λ _. omega arith)

pub keep_keep : (p q : ℕ → Bool) (l : List ℕ) → keep p (keep q l) ≡ keep (λ c. q c && p c) l
unfolding keep
keep_keep p q [] = refl
keep_keep p q (c ∷ l) = by_test (q c) (λ t. rw (t, keep_keep p q l)) (λ f. rw (f, keep_keep p q l))

pub ∈_without : {c d : ℕ} {l : List ℕ} → d ∈ l → d ≢ c → d ∈ without c l
unfolding without
∈_without {c} {d} m n = ∈_keep (λ x. not (eqb x c)) m (rw (ne_eqb d c n))

pub without_∈ : (c : ℕ) (l : List ℕ) {d : ℕ} → d ∈ without c l → (d ∈ l) × (d ≢ c)
unfolding without
without_∈ c l {d} m =
    let h = keep_∈ (λ x. not (eqb x c)) l m in
    (h.0, eqb-false d c (not-true (eqb d c) h.1))

pub rising_without : (c : ℕ) {l : List ℕ} → Rising l → Rising (without c l)
unfolding without
rising_without c = rising_keep (λ x. not (eqb x c))

pub distinct_without : (c : ℕ) {l : List ℕ} → Distinct l → Distinct (without c l)
unfolding without
distinct_without c = distinct_keep (λ x. not (eqb x c))

pub without_absent : {c : ℕ} {l : List ℕ} → ¬ (c ∈ l) → without c l ≡ l
unfolding without
without_absent {c} {l} n = keep_all (λ x. not (eqb x c)) l (λ d m. rw (ne_eqb d c (λ e. n (Memᴰ.cast (sym e) m))))

pub length_without_lt : {c : ℕ} {l : List ℕ} → c ∈ l → length (without c l) < length l
unfolding without
length_without_lt {c} m = length_keep_lt (λ x. not (eqb x c)) m (rw (eq-eqb c c refl))

pub length_without : {c : ℕ} {l : List ℕ} → Distinct l → c ∈ l → suc (length (without c l)) ≡ length l
unfolding keep without
length_without distinct_none m = absurd (Memᴰ.not-nil m)
length_without {c} (distinct_more {c = x} {cs = cs} n r) m = by_place m
    (λ e. rw (eq-eqb x c (sym e)) (ap (λ k. suc (length k)) (without_absent (λ m'. n (Memᴰ.cast (sym e) m')))))
    (λ m'. rw (ne_eqb x c (λ e. n (Memᴰ.cast e m'))) (ap suc (length_without r m')))

pub rising_head : {c d : ℕ} {l : List ℕ} → Rising (c ∷ l) → d ∈ l → c < d
rising_head {d} (rising_more h r) m = h d m

pub rising_tail : {c : ℕ} {l : List ℕ} → Rising (c ∷ l) → Rising l
rising_tail (rising_more h r) = r

pub distinct_head : {c : ℕ} {l : List ℕ} → Distinct (c ∷ l) → ¬ (c ∈ l)
distinct_head (distinct_more n r) = n

pub distinct_tail : {c : ℕ} {l : List ℕ} → Distinct (c ∷ l) → Distinct l
distinct_tail (distinct_more n r) = r

pub rising_distinct : {l : List ℕ} → Rising l → Distinct l
rising_distinct rising_none = distinct_none
rising_distinct (rising_more {c = c} h r) = distinct_more (λ m. lt_irrefl c (h c m)) (rising_distinct r)

pub rising_append : {l m : List ℕ} → Rising l → Rising m → ((c d : ℕ) → c ∈ l → d ∈ m → c < d) → Rising (l ++ m)
rising_append rising_none s h = s
rising_append (rising_more {c = c} {cs = cs} g r) s h =
    rising_more (λ d m. ⊎_elim (g d) (h c d (here refl)) (Memᴰ.append_cases cs m)) (rising_append r s (λ a b m. h a b (there m)))

pub distinct_append : {l m : List ℕ} → Distinct l → Distinct m → ((c : ℕ) → c ∈ l → ¬ (c ∈ m)) → Distinct (l ++ m)
distinct_append distinct_none s h = s
distinct_append (distinct_more {c = c} {cs = cs} n r) s h =
    distinct_more (λ m. ⊎_elim n (h c (here refl)) (Memᴰ.append_cases cs m)) (distinct_append r s (λ a m. h a (there m)))

-- the lowest member comes first
pub rising_first : {c : ℕ} {l : List ℕ} → Rising l → c ∈ l → get_or l 0 0 ≤ c
rising_first rising_none m = absurd (Memᴰ.not-nil m)
rising_first {c} (rising_more h r) m = by_place m (λ e. omega arith) (λ m'. omega (arith, h c m'))

-- rising lists with the same members are equal
pub rising_ext : {l m : List ℕ} → Rising l → Rising m → ((c : ℕ) → c ∈ l → c ∈ m) → ((c : ℕ) → c ∈ m → c ∈ l) → l ≡ m
rising_ext rising_none rising_none f g = refl
rising_ext rising_none (rising_more {c = d} k s) f g = absurd (Memᴰ.not-nil (g d (here refl)))
rising_ext (rising_more {c = c} h r) rising_none f g = absurd (Memᴰ.not-nil (f c (here refl)))
rising_ext (rising_more {c = c} {cs = cs} h r) (rising_more {c = d} {cs = ds} k s) f g =
    let e : c ≡ d = by_place (f c (here refl)) (λ e. e) (λ m. by_place (g d (here refl)) (λ e. sym e) (λ n. omega (arith, h d n, k c m))) in
    ap₂ ◌∷◌ e (rising_ext r s
    (λ x m. by_place (f x (there m)) (λ q. absurd (omega (arith, h x m))) (λ n. n))
    (λ x m. by_place (g x (there m)) (λ q. absurd (omega (arith, k x m))) (λ n. n)))
