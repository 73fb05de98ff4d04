-- Laws of sums over a list: they depend only on the members' values, split over appended and selected lists, exchange,
-- pick out single members, and are known bit by bit.
use Rattle.std.specs.Prelude.{◌≡◌, refl, ◌≢◌, Bool, true, false, cond, not, List, [], ◌∷◌, ◌++◌, ℕ, ◌+◌, ◌*◌, ◌^◌, ◌/◌, ◌%◌, ◌<◌, ◌≤◌, eqb, length}
use Rattle.std.proofs.Common.{sym, ap, ap₂, ◌∙◌, ⊎_elim, true≢false, zero-add, add-zero, zero-mul, suc-mul, add_comm, add-le-add, le_refl, arith, eq-eqb, ne_eqb, pow_pos}
use Rattle.std.proofs.Math.Logic.{by_cases}
use Rattle.std.proofs.lemmas.Bool.{false≢true}
use mathlib.Core.List.Memᴰ
use Rattle.std.proofs.Math.Nat.{zero-mod, zero-div}
use Rattle.std.proofs.Math.Decide.{ℕ_discrete}
use Rattle.math.specs.Members.{◌∈◌, keep, without, Distinct, distinct_none, distinct_more}
use Rattle.math.specs.MembersLaws.{∈_without, without_∈, distinct_without}
use Rattle.math.specs.Xor.{◌⊕◌, xor, ⊕_assoc, ⊕_zero, zero_⊕, ⊕_lt, ⊕_mod, ⊕_bit}
use Rattle.math.specs.Sums.{xor_over, sum_over, only}

-- ---- only

pub only_true : {b : Bool} (x : ℕ) → b ≡ true → only b x ≡ x
unfolding only
only_true {b = true} x e = refl
only_true {b = false} x e = absurd (false≢true e)

pub only_false : {b : Bool} (x : ℕ) → b ≡ false → only b x ≡ 0
unfolding only
only_false {b = true} x e = absurd (true≢false e)
only_false {b = false} x e = refl

pub only_zero : (b : Bool) → only b 0 ≡ 0
unfolding only
only_zero true = refl
only_zero false = refl

pub only_⊕ : (b : Bool) (x y : ℕ) → only b (x ⊕ y) ≡ only b x ⊕ only b y
unfolding only
only_⊕ true x y = refl
only_⊕ false x y = sym (⊕_zero 0)

pub only_lt : (b : Bool) {x n : ℕ} → x < n → 0 < n → only b x < n
unfolding only
only_lt true h p = h
only_lt false h p = p

pub only_mod : (b : Bool) (x m : ℕ) → only b x % m ≡ only b (x % m)
unfolding only
only_mod true x m = refl
only_mod false x m = zero-mod m

-- a number is its part where a test holds with its part where it fails
pub only_split : (b : Bool) (x : ℕ) → x ≡ only b x ⊕ only (not b) x
unfolding only
only_split true x = sym (⊕_zero x)
only_split false x = sym (zero_⊕ x)

-- ---- exclusive or

pub xor_over_ext : (l : List ℕ) (f g : ℕ → ℕ) → ((c : ℕ) → c ∈ l → f c ≡ g c) → xor_over l f ≡ xor_over l g
unfolding xor_over
xor_over_ext [] f g h = refl
xor_over_ext (c ∷ cs) f g h = ap₂ ◌⊕◌ (h c (Memᴰ.head refl)) (xor_over_ext cs f g (λ d m. h d (Memᴰ.tail m)))

pub xor_over_zero : (l : List ℕ) (f : ℕ → ℕ) → ((c : ℕ) → c ∈ l → f c ≡ 0) → xor_over l f ≡ 0
unfolding xor_over
xor_over_zero [] f h = refl
xor_over_zero (c ∷ cs) f h = ap₂ ◌⊕◌ (h c (Memᴰ.head refl)) (xor_over_zero cs f (λ d m. h d (Memᴰ.tail m))) ∙ ⊕_zero 0

pub xor_over_add : (l : List ℕ) (f g : ℕ → ℕ) → xor_over l (λ c. f c ⊕ g c) ≡ xor_over l f ⊕ xor_over l g
unfolding xor_over
xor_over_add [] f g = sym (⊕_zero 0)
xor_over_add (c ∷ cs) f g = ap (λ (x : ℕ). f c ⊕ g c ⊕ x) (xor_over_add cs f g) ∙ simp xor

pub xor_over_append : (l m : List ℕ) (f : ℕ → ℕ) → xor_over (l ++ m) f ≡ xor_over l f ⊕ xor_over m f
unfolding xor_over
xor_over_append [] m f = sym (zero_⊕ (xor_over m f))
xor_over_append (c ∷ cs) m f = ap (λ (x : ℕ). f c ⊕ x) (xor_over_append cs m f) ∙ sym (⊕_assoc (f c) (xor_over cs f) (xor_over m f))

pub xor_over_swap : (l m : List ℕ) (f : ℕ → ℕ → ℕ) → xor_over l (λ c. xor_over m (λ r. f c r)) ≡ xor_over m (λ r. xor_over l (λ c. f c r))
unfolding xor_over
xor_over_swap [] m f = sym (xor_over_zero m (λ r. 0) (λ r h. refl))
xor_over_swap (c ∷ cs) m f =
    ap (λ (x : ℕ). xor_over m (f c) ⊕ x) (xor_over_swap cs m f) ∙ sym (xor_over_add m (f c) (λ r. xor_over cs (λ d. f d r)))

pub xor_over_only : (b : Bool) (l : List ℕ) (f : ℕ → ℕ) → xor_over l (λ c. only b (f c)) ≡ only b (xor_over l f)
unfolding only
xor_over_only true l f = refl
xor_over_only false l f = xor_over_zero l (λ c. 0) (λ c h. refl)

xor_cond : (b : Bool) (c : ℕ) (l : List ℕ) (f : ℕ → ℕ) → xor_over (cond b (c ∷ l) l) f ≡ only b (f c) ⊕ xor_over l f
unfolding xor_over only
xor_cond true c l f = refl
xor_cond false c l f = sym (zero_⊕ (xor_over l f))

pub xor_over_keep : (p : ℕ → Bool) (l : List ℕ) (f : ℕ → ℕ) → xor_over (keep p l) f ≡ xor_over l (λ c. only (p c) (f c))
unfolding xor_over keep
xor_over_keep p [] f = refl
xor_over_keep p (c ∷ cs) f = xor_cond (p c) c (keep p cs) f ∙ ap (λ (x : ℕ). only (p c) (f c) ⊕ x) (xor_over_keep p cs f)

-- only one member counts
pub xor_over_one : {l : List ℕ} {a : ℕ} (f : ℕ → ℕ) → Distinct l → a ∈ l → ((c : ℕ) → c ∈ l → c ≢ a → f c ≡ 0) → xor_over l f ≡ f a
unfolding xor_over
xor_over_one f distinct_none m h = absurd (Memᴰ.not-nil m)
xor_over_one {a = a} f (distinct_more {c = c} {cs = cs} n d) m h =
    ⊎_elim
    (λ (e : a ≡ c). ap₂ ◌⊕◌ (ap f (sym e)) (xor_over_zero cs f (λ x mx. h x (Memᴰ.tail mx) (λ q. n (Memᴰ.cast (sym (q ∙ e)) mx)))) ∙ ⊕_zero (f a))
    (λ (ma : a ∈ cs). ap₂ ◌⊕◌ (h c (Memᴰ.head refl) (λ q. n (Memᴰ.cast q ma))) (xor_over_one f d ma (λ x mx. h x (Memᴰ.tail mx))) ∙ zero_⊕ (f a))
    (Memᴰ.cases_cons m)

pub xor_over_at : {l : List ℕ} {a : ℕ} (f : ℕ → ℕ) → Distinct l → a ∈ l → xor_over l (λ c. only (eqb c a) (f c)) ≡ f a
xor_over_at {a = a} f d m =
    xor_over_one (λ c. only (eqb c a) (f c)) d m (λ c mc ne. only_false (f c) (ne_eqb c a ne)) ∙ only_true (f a) (eq-eqb a a refl)

pub xor_over_at' : {l : List ℕ} {a : ℕ} (f : ℕ → ℕ) → Distinct l → a ∈ l → xor_over l (λ c. only (eqb a c) (f c)) ≡ f a
xor_over_at' {a = a} f d m =
    xor_over_one (λ c. only (eqb a c) (f c)) d m (λ c mc ne. only_false (f c) (ne_eqb a c (λ q. ne (sym q)))) ∙ only_true (f a) (eq-eqb a a refl)

pub xor_over_split : {l : List ℕ} {a : ℕ} (f : ℕ → ℕ) → Distinct l → a ∈ l → xor_over l f ≡ f a ⊕ xor_over (without a l) f
unfolding without
xor_over_split {l} {a} f d m =
    xor_over_ext l f (λ c. only (eqb c a) (f c) ⊕ only (not (eqb c a)) (f c)) (λ c mc. only_split (eqb c a) (f c))
    ∙ xor_over_add l (λ c. only (eqb c a) (f c)) (λ c. only (not (eqb c a)) (f c))
    ∙ ap₂ ◌⊕◌ (xor_over_at f d m) (sym (xor_over_keep (λ c. not (eqb c a)) l f))

-- only two members count
pub xor_over_two : {l : List ℕ} {a b : ℕ} (f : ℕ → ℕ) → Distinct l → a ∈ l → b ∈ l → a ≢ b
    → ((c : ℕ) → c ∈ l → c ≢ a → c ≢ b → f c ≡ 0) → xor_over l f ≡ f a ⊕ f b
xor_over_two {l} {a} {b} f d ma mb ab h =
    xor_over_ext l f (λ c. only (eqb c a) (f c) ⊕ only (eqb c b) (f c)) parts
    ∙ xor_over_add l (λ c. only (eqb c a) (f c)) (λ c. only (eqb c b) (f c))
    ∙ ap₂ ◌⊕◌ (xor_over_at f d ma) (xor_over_at f d mb)
  where
    parts : (c : ℕ) → c ∈ l → f c ≡ only (eqb c a) (f c) ⊕ only (eqb c b) (f c)
    parts c m =
        by_cases (ℕ_discrete c a)
        (λ (e : c ≡ a). sym (ap₂ ◌⊕◌ (only_true (f c) (eq-eqb c a e)) (only_false (f c) (ne_eqb c b (λ q. ab (sym e ∙ q)))) ∙ ⊕_zero (f c)))
        (λ (na : c ≢ a). by_cases (ℕ_discrete c b)
        (λ (e : c ≡ b). sym (ap₂ ◌⊕◌ (only_false (f c) (ne_eqb c a na)) (only_true (f c) (eq-eqb c b e)) ∙ zero_⊕ (f c)))
        (λ (nb : c ≢ b). h c m na nb ∙ sym (ap₂ ◌⊕◌ (only_false (f c) (ne_eqb c a na)) (only_false (f c) (ne_eqb c b nb)) ∙ ⊕_zero 0)))

-- a sum that is not 0 has a member that is not 0
pub xor_over_some : (l : List ℕ) (f : ℕ → ℕ) → (xor_over l f ≡ 0 → ⊥) → (c : ℕ) × (c ∈ l) × (f c ≡ 0 → ⊥)
unfolding xor_over
xor_over_some [] f h = absurd (h refl)
xor_over_some (c ∷ cs) f h =
    by_cases (ℕ_discrete (f c) 0)
    (λ (e : f c ≡ 0).
    let r = xor_over_some cs f (λ q. h (ap₂ ◌⊕◌ e q ∙ ⊕_zero 0)) in
    (r.0, Memᴰ.tail r.1, r.2))
    (λ (ne : f c ≢ 0). (c, Memᴰ.head refl, ne))

pub xor_over_lt : (k : ℕ) (l : List ℕ) (f : ℕ → ℕ) → ((c : ℕ) → c ∈ l → f c < 2 ^ k) → xor_over l f < 2 ^ k
unfolding xor_over
xor_over_lt k [] f h = pow_pos k
xor_over_lt k (c ∷ cs) f h = ⊕_lt k (h c (Memᴰ.head refl)) (xor_over_lt k cs f (λ d m. h d (Memᴰ.tail m)))

pub xor_over_mod : (k : ℕ) (l : List ℕ) (f : ℕ → ℕ) → xor_over l f % 2 ^ k ≡ xor_over l (λ c. f c % 2 ^ k)
unfolding xor_over
xor_over_mod k [] f = zero-mod (2 ^ k)
xor_over_mod k (c ∷ cs) f = ⊕_mod k (f c) (xor_over cs f) ∙ ap (λ (x : ℕ). f c % 2 ^ k ⊕ x) (xor_over_mod k cs f)

-- bit k of a sum is the parity of the members' bits k
pub xor_over_bit : (k : ℕ) (l : List ℕ) (f : ℕ → ℕ) → xor_over l f / 2 ^ k % 2 ≡ sum_over l (λ c. f c / 2 ^ k % 2) % 2
unfolding xor_over sum_over
xor_over_bit k [] f = ap (λ (x : ℕ). x % 2) (zero-div (2 ^ k))
xor_over_bit k (c ∷ cs) f = ⊕_bit k (f c) (xor_over cs f) ∙ let ih = xor_over_bit k cs f in omega arith

-- ---- plain sums

pub sum_over_ext : (l : List ℕ) (f g : ℕ → ℕ) → ((c : ℕ) → c ∈ l → f c ≡ g c) → sum_over l f ≡ sum_over l g
unfolding sum_over
sum_over_ext [] f g h = refl
sum_over_ext (c ∷ cs) f g h = ap₂ ◌+◌ (h c (Memᴰ.head refl)) (sum_over_ext cs f g (λ d m. h d (Memᴰ.tail m)))

pub sum_over_zero : (l : List ℕ) (f : ℕ → ℕ) → ((c : ℕ) → c ∈ l → f c ≡ 0) → sum_over l f ≡ 0
unfolding sum_over
sum_over_zero [] f h = refl
sum_over_zero (c ∷ cs) f h = ap₂ ◌+◌ (h c (Memᴰ.head refl)) (sum_over_zero cs f (λ d m. h d (Memᴰ.tail m)))

pub sum_over_add : (l : List ℕ) (f g : ℕ → ℕ) → sum_over l (λ c. f c + g c) ≡ sum_over l f + sum_over l g
unfolding sum_over
sum_over_add [] f g = refl
sum_over_add (c ∷ cs) f g = let ih = sum_over_add cs f g in omega arith

pub sum_over_append : (l m : List ℕ) (f : ℕ → ℕ) → sum_over (l ++ m) f ≡ sum_over l f + sum_over m f
unfolding sum_over
sum_over_append [] m f = sym (zero-add (sum_over m f))
sum_over_append (c ∷ cs) m f = let ih = sum_over_append cs m f in omega arith

pub sum_over_const : (l : List ℕ) (a : ℕ) → sum_over l (λ c. a) ≡ length l * a
unfolding sum_over
sum_over_const [] a = sym (zero-mul a)
sum_over_const (c ∷ cs) a = ap (λ (x : ℕ). a + x) (sum_over_const cs a) ∙ add_comm a (length cs * a) ∙ sym (suc-mul (length cs) a)

sum_cond : (b : Bool) (c : ℕ) (l : List ℕ) (f : ℕ → ℕ) → sum_over (cond b (c ∷ l) l) f ≡ only b (f c) + sum_over l f
unfolding sum_over only
sum_cond true c l f = refl
sum_cond false c l f = sym (zero-add (sum_over l f))

pub sum_over_keep : (p : ℕ → Bool) (l : List ℕ) (f : ℕ → ℕ) → sum_over (keep p l) f ≡ sum_over l (λ c. only (p c) (f c))
unfolding sum_over keep
sum_over_keep p [] f = refl
sum_over_keep p (c ∷ cs) f = sum_cond (p c) c (keep p cs) f ∙ ap (λ (x : ℕ). only (p c) (f c) + x) (sum_over_keep p cs f)

pub sum_over_le : (l : List ℕ) (f g : ℕ → ℕ) → ((c : ℕ) → c ∈ l → f c ≤ g c) → sum_over l f ≤ sum_over l g
unfolding sum_over
sum_over_le [] f g h = le_refl 0
sum_over_le (c ∷ cs) f g h = add-le-add (h c (Memᴰ.head refl)) (sum_over_le cs f g (λ d m. h d (Memᴰ.tail m)))

-- a selection is as long as there are members that pass the test
pub length_keep_sum : (p : ℕ → Bool) (l : List ℕ) → length (keep p l) ≡ sum_over l (λ c. only (p c) 1)
length_keep_sum p l = let e = sum_over_const (keep p l) 1 in let k = sum_over_keep p l (λ c. 1) in omega arith

-- only one member counts
pub sum_over_one : {l : List ℕ} {a : ℕ} (f : ℕ → ℕ) → Distinct l → a ∈ l → ((c : ℕ) → c ∈ l → c ≢ a → f c ≡ 0) → sum_over l f ≡ f a
unfolding sum_over
sum_over_one f distinct_none m h = absurd (Memᴰ.not-nil m)
sum_over_one {a = a} f (distinct_more {c = c} {cs = cs} n d) m h =
    ⊎_elim
    (λ (e : a ≡ c). ap₂ ◌+◌ (ap f (sym e)) (sum_over_zero cs f (λ x mx. h x (Memᴰ.tail mx) (λ q. n (Memᴰ.cast (sym (q ∙ e)) mx)))) ∙ add-zero (f a))
    (λ (ma : a ∈ cs). ap₂ ◌+◌ (h c (Memᴰ.head refl) (λ q. n (Memᴰ.cast q ma))) (sum_over_one f d ma (λ x mx. h x (Memᴰ.tail mx))) ∙ zero-add (f a))
    (Memᴰ.cases_cons m)

only_parts : (b : Bool) (x : ℕ) → x ≡ only b x + only (not b) x
unfolding only
only_parts true x = sym (add-zero x)
only_parts false x = sym (zero-add x)

-- one member, and the others
pub sum_over_split : {l : List ℕ} {a : ℕ} (f : ℕ → ℕ) → Distinct l → a ∈ l → sum_over l f ≡ f a + sum_over (without a l) f
unfolding without
sum_over_split {l} {a} f d m =
    sum_over_ext l f (λ c. only (eqb c a) (f c) + only (not (eqb c a)) (f c)) (λ c mc. only_parts (eqb c a) (f c))
    ∙ sum_over_add l (λ c. only (eqb c a) (f c)) (λ c. only (not (eqb c a)) (f c))
    ∙ ap₂ ◌+◌
    (sum_over_one (λ c. only (eqb c a) (f c)) d m (λ c mc ne. only_false (f c) (ne_eqb c a ne)) ∙ only_true (f a) (eq-eqb a a refl))
    (sym (sum_over_keep (λ c. not (eqb c a)) l f))

-- only two members count
pub sum_over_two : {l : List ℕ} {a b : ℕ} (f : ℕ → ℕ) → Distinct l → a ∈ l → b ∈ l → a ≢ b
    → ((c : ℕ) → c ∈ l → c ≢ a → c ≢ b → f c ≡ 0) → sum_over l f ≡ f a + f b
sum_over_two {l} {a} {b} f d ma mb ab h =
    sum_over_split f d ma
    ∙ ap (λ (x : ℕ). f a + x)
    (sum_over_one f (distinct_without a d) (∈_without mb (λ e. ab (sym e))) (λ c m n. let k = without_∈ a l m in h c k.0 k.1 n))
