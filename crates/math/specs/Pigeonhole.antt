-- Lists of numbers by index, under a map, counted and searched.
-- Main results: distinct_length and injection_length (the pigeonhole), distinct_covers, find_in, first_in, all_in.
use Rattle.std.specs.Prelude.{◌≡◌, refl, ◌⊎◌, List, [], ◌∷◌, map, ℕ, zero, suc, ◌≤◌, ◌<◌, length, get_or}
use Rattle.std.proofs.Common.{sym, ap, subst, inl, inr, arith}
use Rattle.std.proofs.Math.Logic.{by_cases}
use mathlib.Core.List.Memᴰ
use mathlib.Core.List.Memᴰ.{head as here}
use mathlib.Core.List.Memᴰ.{tail as there}
use Rattle.std.proofs.Math.Nat.{suc_inj}
use Rattle.std.proofs.lemmas.List.{length-map}
use Rattle.math.specs.Members.{◌∈◌, up_to, without, Rising, rising_none, rising_more, Distinct, distinct_none, distinct_more}
use Rattle.math.specs.MembersLaws.{by_place, dec_in, ∈_without, length_without_lt, up_to_∈, length_up_to, rising_up_to, rising_distinct}

pub get_or_∈ : (l : List ℕ) {i : ℕ} → i < length l → get_or l i 0 ∈ l
get_or_∈ [] h = absurd (omega arith)
get_or_∈ (c ∷ l) {i = zero} h = here refl
get_or_∈ (c ∷ l) {i = suc i} h = there (get_or_∈ l (omega arith))

pub ∈_get_or : {c : ℕ} {l : List ℕ} → c ∈ l → (i : ℕ) × (i < length l) × (get_or l i 0 ≡ c)
∈_get_or (here e) = (0, omega arith, sym e)
∈_get_or (there m) = let t = ∈_get_or m in (suc t.0, omega arith, t.2)

pub rising_get_or : {l : List ℕ} {i j : ℕ} → Rising l → i < j → j < length l → get_or l i 0 < get_or l j 0
rising_get_or {i} {j} rising_none h k = absurd (omega arith)
rising_get_or {i} {j = zero} (rising_more g r) h k = absurd (omega arith)
rising_get_or {i = zero} {j = suc j} (rising_more {cs = cs} g r) h k = g (get_or cs j 0) (get_or_∈ cs (omega arith))
rising_get_or {i = suc i} {j = suc j} (rising_more g r) h k = rising_get_or r (omega arith) (omega arith)

-- the converse of rising_get_or
pub rising_by_index : (l : List ℕ) → ((i j : ℕ) → i < j → j < length l → get_or l i 0 < get_or l j 0) → Rising l
rising_by_index [] h = rising_none
rising_by_index (c ∷ l) h = rising_more {c = c} {cs = l}
    (λ d m. let t = ∈_get_or m in omega (arith, h 0 (suc t.0) (omega arith) (omega arith)))
    (rising_by_index l (λ i j a b. h (suc i) (suc j) (omega arith) (omega arith)))

pub distinct_get_or : {l : List ℕ} {i j : ℕ} → Distinct l → i < length l → j < length l → get_or l i 0 ≡ get_or l j 0 → i ≡ j
distinct_get_or {i} {j} distinct_none h k e = absurd (omega arith)
distinct_get_or {i = zero} {j = zero} (distinct_more n r) h k e = refl
distinct_get_or {i = zero} {j = suc j} (distinct_more {cs = cs} n r) h k e = absurd (n (Memᴰ.cast e (get_or_∈ cs (omega arith))))
distinct_get_or {i = suc i} {j = zero} (distinct_more {cs = cs} n r) h k e = absurd (n (Memᴰ.cast (sym e) (get_or_∈ cs (omega arith))))
distinct_get_or {i = suc i} {j = suc j} (distinct_more n r) h k e = ap suc (distinct_get_or r (omega arith) (omega arith) e)

-- the converse of distinct_get_or
pub distinct_by_index : (l : List ℕ) → ((i j : ℕ) → i < length l → j < length l → get_or l i 0 ≡ get_or l j 0 → i ≡ j) → Distinct l
distinct_by_index [] h = distinct_none
distinct_by_index (c ∷ l) h = distinct_more {c = c} {cs = l}
    (λ m. let t = ∈_get_or m in omega (arith, h 0 (suc t.0) (omega arith) (omega arith) (sym t.2)))
    (distinct_by_index l (λ i j a b e. suc_inj (h (suc i) (suc j) (omega arith) (omega arith) e)))

pub mem_map : (f : ℕ → ℕ) {c : ℕ} {l : List ℕ} → c ∈ l → f c ∈ map f l
mem_map f m = Memᴰ.map f m

pub map_mem : (f : ℕ → ℕ) (l : List ℕ) {d : ℕ} → d ∈ map f l → (c : ℕ) × (c ∈ l) × (d ≡ f c)
map_mem f l m = let t = Memᴰ.of_map f l m in (t.0, t.1, sym t.2)

pub distinct_map : (f : ℕ → ℕ) {l : List ℕ} → Distinct l → ((c d : ℕ) → c ∈ l → d ∈ l → f c ≡ f d → c ≡ d) → Distinct (map f l)
distinct_map f distinct_none h = distinct_none
distinct_map f (distinct_more {c = c} {cs = cs} n r) h = distinct_more
    (λ m. let t = map_mem f cs m in n (Memᴰ.cast (h c t.0 (here refl) (there t.1) t.2) t.1))
    (distinct_map f r (λ a b m k. h a b (there m) (there k)))

pub rising_map : (f : ℕ → ℕ) {l : List ℕ} → Rising l → ((c d : ℕ) → c ∈ l → d ∈ l → c < d → f c < f d) → Rising (map f l)
rising_map f rising_none h = rising_none
rising_map f (rising_more {c = c} {cs = cs} g r) h = rising_more {c = f c} {cs = map f cs}
    (λ d m. let t = map_mem f cs m in omega (arith, h c t.0 (here refl) (there t.1) (g t.0 t.1), t.2))
    (rising_map f r (λ a b m k. h a b (there m) (there k)))

-- the pigeonhole: distinct numbers among those of m are at most as many as m has
pub distinct_length : {l m : List ℕ} → Distinct l → ((c : ℕ) → c ∈ l → c ∈ m) → length l ≤ length m
distinct_length distinct_none h = omega arith
distinct_length {m} (distinct_more {c = c} {cs = cs} n r) h =
    let k : length cs ≤ length (without c m) = distinct_length r (λ d i. ∈_without (h d (there i)) (λ e. n (Memᴰ.cast (sym e) i))) in
    omega (arith, length_without_lt (h c (here refl)))

-- distinct numbers among those of m, as many as m has, are all of m
pub distinct_covers : {l m : List ℕ} → Distinct l → ((c : ℕ) → c ∈ l → c ∈ m) → length m ≤ length l → (c : ℕ) → c ∈ m → c ∈ l
distinct_covers {l} {m} r h k c i = by_cases (dec_in c l) (λ y. y) (λ n.
    let g : length l ≤ length (without c m) = distinct_length r (λ d j. ∈_without (h d j) (λ e. n (Memᴰ.cast (sym e) j))) in
    absurd (omega (arith, length_without_lt i)))

pub injection_length : (h : ℕ) (f : ℕ → ℕ) (m : List ℕ) → ((i : ℕ) → i < h → f i ∈ m)
    → ((i j : ℕ) → i < h → j < h → f i ≡ f j → i ≡ j) → h ≤ length m
injection_length h f m into inj =
    let d = distinct_map f (rising_distinct (rising_up_to h)) (λ i j a b. inj i j (up_to_∈ h a) (up_to_∈ h b)) in
    let g : length (map f (up_to h)) ≤ length m = distinct_length d (λ c i. let t = map_mem f (up_to h) i in Memᴰ.cast t.2 (into t.0 (up_to_∈ h t.1))) in
    omega (arith, length-map (up_to h) f, length_up_to h)

module _ {P : ℕ → Type 0} (dec : (c : ℕ) → Dec (P c)) where
  -- a member with P, or none
  pub find_in : (l : List ℕ) → ((c : ℕ) × (c ∈ l) × P c) ⊎ ((c : ℕ) → c ∈ l → ¬ (P c))
  find_in [] = inr (λ c m. absurd (Memᴰ.not-nil m))
  find_in (x ∷ l) = by_cases (dec x) (λ y. inl (x, here refl, y)) (λ n. elim (find_in l) [
    | inl t ↦ inl (t.0, there t.1, t.2)
    | inr none ↦ inr (λ c m y. by_place m (λ e. n (subst P e y)) (λ k. none c k y))
  ])

  -- the lowest member with P, or none
  pub first_in : {l : List ℕ} → Rising l → ((c : ℕ) × (c ∈ l) × P c × ((d : ℕ) → d ∈ l → P d → c ≤ d)) ⊎ ((c : ℕ) → c ∈ l → ¬ (P c))
  first_in rising_none = inr (λ c m. absurd (Memᴰ.not-nil m))
  first_in (rising_more {c = x} h r) = by_cases (dec x)
      (λ y. inl (x, here refl, y, λ d m z. by_place m (λ e. omega arith) (λ k. omega (arith, h d k))))
      (λ n. elim (first_in r) [
        | inl t ↦ inl (t.0, there t.1, t.2, λ d m z. by_place m (λ e. absurd (n (subst P e z))) (λ k. t.3 d k z))
        | inr none ↦ inr (λ c m y. by_place m (λ e. n (subst P e y)) (λ k. none c k y))
      ])

  pub all_in : (l : List ℕ) → Dec ((c : ℕ) → c ∈ l → P c)
  all_in [] = yes (λ c m. absurd (Memᴰ.not-nil m))
  all_in (x ∷ l) = by_cases (dec x)
      (λ y. elim (all_in l) [
        | yes all ↦ yes (λ c m. by_place m (λ e. subst P (sym e) y) (λ k. all c k))
        | no n ↦ no (λ all. n (λ c k. all c (there k)))
      ])
      (λ n. no (λ all. n (all x (here refl))))
