-- First laws of places, rows and row sums: membership, where rows lie, the exchange of the two sums (rows, places), blocks from functions.
use Rattle.std.specs.Prelude.{◌≡◌, refl, ◌≢◌, Bool, true, List, [], ◌∷◌, map, ℕ, zero, suc, ◌+◌, ◌-◌, ◌*◌, ◌/◌, ◌%◌, ◌^◌, ◌≤◌, ◌<◌, length, get_or}
use Rattle.std.proofs.Math.Path.{sym}
use Rattle.std.proofs.Common.{◌∙◌, ap, inl, inr, div-add-mod', not-suc-le-zero, le_of_suc-le-suc}
use Rattle.std.proofs.Math.Logic.{by_cases}
use Rattle.std.proofs.Math.Bool.{false, or-true}
use Rattle.std.proofs.Math.Nat.{mod-lt}
use Rattle.std.proofs.Math.Decide.{dec_lt}
use native.Mathlib.Omega.{arith}
use Rattle.std.proofs.Math.Dec.{eqb}
use Rattle.std.proofs.Math.Arith.{digits_lt, digits_div, digits_mod}
use Rattle.std.proofs.lemmas.List.{length-map}
use Rattle.std.proofs.Math.ListN.{get_or-eq_default}
use borrow.Author.Tests.{eq-eqb, ne_eqb, eqb-true}
use Rattle.math.specs.Members.{◌∈◌, is_in, up_to, Rising, Distinct}
use Rattle.math.specs.MembersLaws.{is_in_∈, ∈_is_in, ∈_up_to, up_to_∈, length_up_to, get_or_up_to, rising_up_to, ∈_keep, keep_∈, rising_keep, rising_distinct, by_test}
use Rattle.math.specs.Xor.{◌⊕◌, ⊕_zero, zero_⊕}
use Rattle.math.specs.Sums.{xor_over, only}
use Rattle.math.specs.SumsLaws.{only_zero, only_⊕, only_mod, xor_over_ext, xor_over_zero, xor_over_add, xor_over_swap, xor_over_only, xor_over_at, xor_over_mod}
use Rattle.plan.specs.Layout.{Layout, Valid, place_of, top_row, bottom_row, top, bottom}
use Rattle.code.specs.Places.{places, rows, Meets, meets}
use Rattle.code.specs.Codewords.{at, syndrome, Codeword}

get_or_map_lt : (f : ℕ → ℕ) (l : List ℕ) (i : ℕ) → i < length l → get_or (map f l) i 0 ≡ f (get_or l i 0)
get_or_map_lt f [] i h = absurd (not-suc-le-zero h)
get_or_map_lt f (x ∷ l) zero h = refl
get_or_map_lt f (x ∷ l) (suc i) h = get_or_map_lt f l i (le_of_suc-le-suc h)

only_swap : (a b : Bool) (x : ℕ) → only a (only b x) ≡ only b (only a x)
unfolding only
only_swap true b x = refl
only_swap false true x = refl
only_swap false false x = refl

-- membership of places
pub ∈_places : (L : Layout) {c : ℕ} → c < L.n * L.t → (c / L.t) ∈ L.sections → c ∈ places L
unfolding places
∈_places L h m = ∈_keep (λ c. is_in (c / L.t) L.sections) (∈_up_to h) (∈_is_in m)

pub places_∈ : (L : Layout) {c : ℕ} → c ∈ places L → (c < L.n * L.t) × ((c / L.t) ∈ L.sections)
unfolding places
places_∈ L {c} m =
    let k = keep_∈ (λ d. is_in (d / L.t) L.sections) (up_to (L.n * L.t)) m in
    (up_to_∈ (L.n * L.t) k.0, is_in_∈ (c / L.t) L.sections k.1)

pub rising_places : (L : Layout) → Rising (places L)
unfolding places
rising_places L = rising_keep (λ c. is_in (c / L.t) L.sections) (rising_up_to (L.n * L.t))

pub distinct_places : (L : Layout) → Distinct (places L)
distinct_places L = rising_distinct (rising_places L)

pub ∈_rows : (L : Layout) {r : ℕ} → r < 2 * L.t → r ∈ rows L
unfolding rows
∈_rows L h = ∈_up_to h

pub rows_∈ : (L : Layout) {r : ℕ} → r ∈ rows L → r < 2 * L.t
unfolding rows
rows_∈ L m = up_to_∈ (2 * L.t) m

pub rising_rows : (L : Layout) → Rising (rows L)
unfolding rows
rising_rows L = rising_up_to (2 * L.t)

pub distinct_rows : (L : Layout) → Distinct (rows L)
distinct_rows L = rising_distinct (rising_rows L)

-- a place and its section and offset
pub section_of : {t : ℕ} (j : ℕ) {k : ℕ} → k < t → place_of t j k / t ≡ j
unfolding place_of
section_of j h = digits_div j h

pub offset_of : {t : ℕ} (j : ℕ) {k : ℕ} → k < t → place_of t j k % t ≡ k
unfolding place_of
offset_of j h = digits_mod j h

pub place_split : (t c : ℕ) → place_of t (c / t) (c % t) ≡ c
unfolding place_of
place_split t c = div-add-mod' c t

pub place_unique : (t c d : ℕ) → c / t ≡ d / t → c % t ≡ d % t → c ≡ d
place_unique t c d e f = sym (place_split t c) ∙ (rw (e, f) (place_split t d))

module _ (L : Layout) (ok : Valid L) where
  pub place_∈ : {j k : ℕ} → j ∈ L.sections → k < L.t → place_of L.t j k ∈ places L
  unfolding place_of
  place_∈ {j} {k} m h =
      let e : (j * L.t + k) / L.t ≡ j = digits_div j h in
      ∈_places L (digits_lt (ok.inside j m) h) (rw e m)

  pub offset_lt : (c : ℕ) → c % L.t < L.t
  offset_lt c = mod-lt c ok.positive

  -- where the rows lie
  pub top_lt : (c : ℕ) → top L c < L.t
  unfolding top top_row
  top_lt c = offset_lt c

  pub bottom_ge : (c : ℕ) → L.t ≤ bottom L c
  unfolding bottom bottom_row
  bottom_ge c = omega arith

  pub bottom_lt : (c : ℕ) → bottom L c < 2 * L.t
  unfolding bottom bottom_row
  bottom_lt c = omega (arith, mod-lt (c % L.t + L.t - L.shift (c / L.t)) ok.positive)

  pub top≢bottom : (c d : ℕ) → top L c ≢ bottom L d
  top≢bottom c d e = omega (arith, top_lt c, bottom_ge d, e)

  pub meets_row : (c : ℕ) {r : ℕ} → Meets L c r → r < 2 * L.t
  meets_row c (inl e) = omega (arith, top_lt c, e)
  meets_row c (inr e) = omega (arith, bottom_lt c, e)

  pub top_of : (j : ℕ) {k : ℕ} → k < L.t → top L (place_of L.t j k) ≡ k
  unfolding top top_row
  top_of j h = offset_of j h

  pub bottom_of : (j : ℕ) {k : ℕ} → k < L.t → bottom L (place_of L.t j k) ≡ bottom_row L.t (L.shift j) k
  unfolding bottom
  bottom_of j h = rw (section_of j h, offset_of j h)

  -- the symbol enters the sums of its two rows and no other
  pub only_meets : (c r x : ℕ) → only (meets L c r) x ≡ only (eqb r (top L c)) x ⊕ only (eqb r (bottom L c)) x
  unfolding meets only
  only_meets c r x =
      by_test (eqb r (top L c))
      (λ e. let f : eqb r (bottom L c) ≡ false = ne_eqb r (bottom L c) (λ g. top≢bottom c c (sym (eqb-true r (top L c) e) ∙ g)) in
      rw (e, f) (sym (⊕_zero x)))
      (λ e. rw e (sym (zero_⊕ (only (eqb r (bottom L c)) x))))

  spread : (p : ℕ → Bool) (v : ℕ → ℕ) (r : ℕ) → only (p r) (syndrome L v r) ≡ xor_over (places L) (λ c. only (p r) (only (meets L c r) (v c)))
  unfolding syndrome
  spread p v r = sym (xor_over_only (p r) (places L) (λ c. only (meets L c r) (v c)))

  gather : (p : ℕ → Bool) (v : ℕ → ℕ) (c : ℕ) → xor_over (rows L) (λ r. only (p r) (only (meets L c r) (v c)))
      ≡ only (p (top L c)) (v c) ⊕ only (p (bottom L c)) (v c)
  gather p v c =
      let f : ℕ → ℕ = λ r. only (p r) (v c) in
      xor_over_ext (rows L) (λ r. only (p r) (only (meets L c r) (v c)))
      (λ r. only (eqb r (top L c)) (f r) ⊕ only (eqb r (bottom L c)) (f r))
      (λ r m. ap (only (p r)) (only_meets c r (v c)) ∙ only_⊕ (p r) (only (eqb r (top L c)) (v c)) (only (eqb r (bottom L c)) (v c))
      ∙ rw (only_swap (p r) (eqb r (top L c)) (v c), only_swap (p r) (eqb r (bottom L c)) (v c)))
      ∙ xor_over_add (rows L) (λ r. only (eqb r (top L c)) (f r)) (λ r. only (eqb r (bottom L c)) (f r))
      ∙ rw (
        xor_over_at f (distinct_rows L) (∈_rows L (meets_row c (inl refl))),
        xor_over_at f (distinct_rows L) (∈_rows L (meets_row c (inr refl))),
      )

  -- the exchange: adding up the row sums over the rows that pass a test
  pub class_sum_lem : (p : ℕ → Bool) (v : ℕ → ℕ)
      → xor_over (rows L) (λ r. only (p r) (syndrome L v r)) ≡ xor_over (places L) (λ c. only (p (top L c)) (v c) ⊕ only (p (bottom L c)) (v c))
  class_sum_lem p v =
      xor_over_ext (rows L) (λ r. only (p r) (syndrome L v r)) (λ r. xor_over (places L) (λ c. only (p r) (only (meets L c r) (v c))))
      (λ r m. spread p v r)
      ∙ xor_over_swap (rows L) (places L) (λ r c. only (p r) (only (meets L c r) (v c)))
      ∙ xor_over_ext (places L) (λ c. xor_over (rows L) (λ r. only (p r) (only (meets L c r) (v c))))
      (λ c. only (p (top L c)) (v c) ⊕ only (p (bottom L c)) (v c)) (λ c m. gather p v c)

-- row sums of equal blocks, of sums, of residues
pub syndrome_ext : (L : Layout) (v w : ℕ → ℕ) (r : ℕ) → ((c : ℕ) → c ∈ places L → v c ≡ w c) → syndrome L v r ≡ syndrome L w r
unfolding syndrome
syndrome_ext L v w r h =
    xor_over_ext (places L) (λ c. only (meets L c r) (v c)) (λ c. only (meets L c r) (w c)) (λ c m. ap (only (meets L c r)) (h c m))

pub syndrome_add : (L : Layout) (v w : ℕ → ℕ) (r : ℕ) → syndrome L (λ c. v c ⊕ w c) r ≡ syndrome L v r ⊕ syndrome L w r
unfolding syndrome
syndrome_add L v w r =
    xor_over_ext (places L) (λ c. only (meets L c r) (v c ⊕ w c)) (λ c. only (meets L c r) (v c) ⊕ only (meets L c r) (w c))
    (λ c m. only_⊕ (meets L c r) (v c) (w c))
    ∙ xor_over_add (places L) (λ c. only (meets L c r) (v c)) (λ c. only (meets L c r) (w c))

pub syndrome_mod : (L : Layout) (v : ℕ → ℕ) (r k : ℕ) → syndrome L (λ c. v c % 2 ^ k) r ≡ syndrome L v r % 2 ^ k
unfolding syndrome
syndrome_mod L v r k =
    sym (xor_over_mod k (places L) (λ c. only (meets L c r) (v c))
    ∙ xor_over_ext (places L) (λ c. only (meets L c r) (v c) % 2 ^ k) (λ c. only (meets L c r) (v c % 2 ^ k))
    (λ c m. only_mod (meets L c r) (v c) (2 ^ k)))

pub syndrome_zero : (L : Layout) (r : ℕ) → syndrome L (λ c. 0) r ≡ 0
unfolding syndrome
syndrome_zero L r = xor_over_zero (places L) (λ c. only (meets L c r) 0) (λ c m. only_zero (meets L c r))

pub meets_true : (L : Layout) (c : ℕ) {r : ℕ} → Meets L c r → meets L c r ≡ true
unfolding meets
meets_true L c {r} (inl e) = rw (eq-eqb r (top L c) e)
meets_true L c {r} (inr e) = rw (eq-eqb r (bottom L c) e) (or-true (eqb r (top L c)))

pub true_meets : (L : Layout) (c r : ℕ) → meets L c r ≡ true → Meets L c r
unfolding meets
true_meets L c r e =
    by_test (eqb r (top L c))
    (λ f. inl (eqb-true r (top L c) f))
    (λ f. inr (eqb-true r (bottom L c) (rw f at e)))

-- a function as a block of bytes
unfoldable pub word : Layout → (ℕ → ℕ) → List ℕ
word L w = map (λ c. w c % 256) (up_to (L.n * L.t))

pub length_word : (L : Layout) (w : ℕ → ℕ) → length (word L w) ≡ L.n * L.t
unfolding word
length_word L w = length-map (up_to (L.n * L.t)) (λ c. w c % 256) ∙ length_up_to (L.n * L.t)

pub word_at : (L : Layout) (w : ℕ → ℕ) {c : ℕ} → c < L.n * L.t → at (word L w) c ≡ w c % 256
unfolding word
word_at L w {c} h = get_or_map_lt (λ d. w d % 256) (up_to (L.n * L.t)) c (rw length_up_to h) ∙ ap (λ d. w d % 256) (get_or_up_to h)

pub word_byte : (L : Layout) (w : ℕ → ℕ) (c : ℕ) → at (word L w) c < 256
word_byte L w c =
    by_cases (dec_lt c (L.n * L.t))
    (λ h. rw (word_at L w h) (omega arith))
    (λ h. rw (get_or-eq_default (word L w) 0 {n = c} (rw length_word (omega arith))) (omega arith))

-- a function whose row sums are 0 gives a codeword
pub word_codeword : (L : Layout) (w : ℕ → ℕ) → ((r : ℕ) → r < 2 * L.t → syndrome L w r ≡ 0) → Codeword L (word L w)
word_codeword L w h =
    record {
      whole = length_word L w;
      symbols = word_byte L w;
      sums = λ r m. syndrome_ext L (at (word L w)) (λ c. w c % 256) r (λ c k. word_at L w (places_∈ L k).0)
          ∙ syndrome_mod L w r 8 ∙ (rw (h r m));
    }
