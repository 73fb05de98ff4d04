-- Tests that compute, each with the law that a passed test gives: for plans that are written out.
-- Main results: codeword_by_test, agrees_by_test, cycle_by_test, forest_by_test, messages_by_test, ruler_by_test, pair_by_test, neighbours_by_test.
use Rattle.std.specs.Prelude.{◌≡◌, refl, Bool, true, ◌&&◌, ◌||◌, List, [], ◌∷◌, ℕ, ◌+◌, ◌-◌, ◌*◌, ◌%◌, ◌≤◌, ◌<◌, eqb, ltb, leb, length}
use Rattle.std.proofs.Common.{◌∙◌, ap, ⊎_elim, arith}
use Rattle.std.proofs.Math.Path.{subst}
use Rattle.std.proofs.Math.Logic.{by_cases}
use Rattle.std.proofs.Math.Bool.{not, and-eq-true_iff, or-true}
use mathlib.Core.List.Memᴰ.{head}
use mathlib.Core.List.Memᴰ.{tail}
use Rattle.std.proofs.Math.Decide.{dec_lt}
use Rattle.std.proofs.Math.ListN.{get_or-eq_default}
use borrow.Author.Tests.{eq-eqb, ne_eqb, eqb-true, eqb-false, ltb-true, leb-true, le-leb, not-true}
use Rattle.math.specs.Members.{◌∈◌, is_in, up_to, keep}
use Rattle.math.specs.MembersLaws.{is_in_∈, ∉_is_in, ∈_up_to, up_to_∈, rising_up_to, ∈_keep, keep_∈, rising_keep}
use Rattle.math.specs.Pigeonhole.{get_or_∈}
use Rattle.plan.specs.Layout.{Layout, Valid, layout, top, bottom}
use Rattle.code.specs.Places.{places, rows}
use Rattle.code.specs.Codewords.{at, syndrome, Codeword, Agrees, Single, None, TwoOrMore}
use Rattle.code.specs.Marks.{erasures}
use Rattle.code.specs.Cycles.{Cycle}
use Rattle.code.specs.Components.{Inconsistent}
use Rattle.code.specs.Messages.{Message, Lists}
use Rattle.code.specs.Figures.{Least, pair_number, Pair, Neighbours, Capability, EqualShifts, Ruler}
use Rattle.code.specs.Laws.Forest.{Erased, Forest, above}
use Rattle.code.proofs.Laws.Basics.{∈_rows, places_∈, rising_places}
use Rattle.code.specs.Laws.Labels.{label}
use Rattle.code.proofs.Laws.Labels.{label_connected, connected_label}
use Rattle.code.proofs.Laws.Balance.{crossed}
use Rattle.code.proofs.Laws.Unique.{forest_unique}
use Rattle.code.proofs.Laws.Paths.{path}
use Rattle.code.proofs.Laws.CycleLaws.{forest_by_place}
use Rattle.code.proofs.Laws.MarksLaws.{erasures_erased}

-- ---- one test over a list

unfoldable pub every : (ℕ → Bool) → List ℕ → Bool
every p [] = true
every p (c ∷ cs) = p c && every p cs

pub every_∈ : (p : ℕ → Bool) {c : ℕ} {l : List ℕ} → every p l ≡ true → c ∈ l → p c ≡ true
unfolding every
every_∈ p h (head {x = x} {xs = xs} e) = ap p e ∙ ((and-eq-true_iff (p x) (every p xs)).0 h).0
every_∈ p h (tail {x = x} {xs = xs} m) = every_∈ p ((and-eq-true_iff (p x) (every p xs)).0 h).1 m

pub every_below : (p : ℕ → Bool) {n i : ℕ} → every p (up_to n) ≡ true → i < n → p i ≡ true
every_below p h l = every_∈ p h (∈_up_to l)

-- a passed test "if a then b"
pub passed : {a b : Bool} → (not a || b) ≡ true → a ≡ true → b ≡ true
passed {a} {b} h e = rw e at h

-- a test of every two numbers of a list
unfoldable pub every_two : (ℕ → ℕ → Bool) → List ℕ → Bool
unfolding every
every_two p l = every (λ i. every (p i) l) l

pub every_two_∈ : (p : ℕ → ℕ → Bool) {l : List ℕ} {i j : ℕ} → every_two p l ≡ true → i ∈ l → j ∈ l → p i j ≡ true
unfolding every_two
every_two_∈ p {l} {i} h a b = every_∈ (p i) (every_∈ (λ i. every (p i) l) h a) b

-- f takes no value twice below n
unfoldable pub once : (ℕ → ℕ) → ℕ → Bool
unfolding every_two
once f n = every_two (λ i j. not (eqb (f i) (f j)) || eqb i j) (up_to n)

pub once_law : (f : ℕ → ℕ) (n : ℕ) → once f n ≡ true → (i j : ℕ) → i < n → j < n → f i ≡ f j → i ≡ j
unfolding once
once_law f n h i j a b e =
    eqb-true i j (passed (every_two_∈ (λ i j. not (eqb (f i) (f j)) || eqb i j) h (∈_up_to a) (∈_up_to b)) (eq-eqb (f i) (f j) e))

-- ---- plans

pub valid_layout : (n t : ℕ) (shifts : List ℕ) → 0 < t → ((j : ℕ) → j < n → at shifts j < t) → Valid (layout n t shifts)
unfolding layout
valid_layout n t shifts positive below =
    record { positive = positive; rising = rising_up_to n; inside = λ j m. up_to_∈ n m; below = λ j m. below j (up_to_∈ n m) }

pub valid_by_test : (n t : ℕ) (shifts : List ℕ) → (ltb 0 t && every (λ j. ltb (at shifts j) t) (up_to n)) ≡ true → Valid (layout n t shifts)
valid_by_test n t shifts h =
    let k = (and-eq-true_iff (ltb 0 t) (every (λ j. ltb (at shifts j) t) (up_to n))).0 h in
    valid_layout n t shifts (ltb-true 0 t k.0) (λ j l. ltb-true (at shifts j) t (every_below (λ j. ltb (at shifts j) t) k.1 l))

-- ---- codewords

pub bytes_by_test : (v : List ℕ) → every (λ x. ltb x 256) v ≡ true → (c : ℕ) → at v c < 256
bytes_by_test v h c =
    by_cases (dec_lt c (length v))
    (λ l. ltb-true (at v c) 256 (every_∈ (λ x. ltb x 256) h (get_or_∈ v l)))
    (λ l. rw (get_or-eq_default v 0 {n = c} (omega arith)) (omega arith))

pub codeword_by_test : (L : Layout) (v : List ℕ) → length v ≡ L.n * L.t → every (λ x. ltb x 256) v ≡ true →
    every (λ r. eqb (syndrome L (at v) r) 0) (rows L) ≡ true → Codeword L v
codeword_by_test L v len bytes sums =
    record {
      whole = len;
      symbols = bytes_by_test v bytes;
      sums = λ r h. eqb-true (syndrome L (at v) r) 0 (every_∈ (λ r. eqb (syndrome L (at v) r) 0) sums (∈_rows L h));
    }

pub agrees_by_test : (L : Layout) (E v w : List ℕ) → Codeword L w → every (λ c. is_in c E || eqb (at w c) (at v c)) (up_to (L.n * L.t)) ≡ true → Agrees L E v w
agrees_by_test L E v w cw h =
    record {
      codeword = cw;
      unmarked = λ c l n. eqb-true (at w c) (at v c) (rw (∉_is_in n) at (every_below (λ c. is_in c E || eqb (at w c) (at v c)) h l));
    }

-- ---- erasures

pub erased_by_marks : (L : Layout) (m : List ℕ) {E : List ℕ} → erasures L m ≡ E → Erased L E
erased_by_marks L m e = subst (λ F. Erased L F) e (erasures_erased L m)

-- the rows of c are connected by the places of E above c
unfoldable pub closes : Layout → List ℕ → ℕ → Bool
closes L E c = let F = above c E in eqb (label L F (top L c)) (label L F (bottom L c))

module _ (L : Layout) (ok : Valid L) where
  pub forest_by_test : {E : List ℕ} → Erased L E → every (λ c. not (closes L E c)) E ≡ true → Forest L E
  unfolding closes
  forest_by_test {E} er h =
      forest_by_place L ok er.rising
      (λ c m q. eqb-false (label L (above c E) (top L c)) (label L (above c E) (bottom L c))
      (not-true (closes L E c) (every_∈ (λ c. not (closes L E c)) h m)) (connected_label q))

  pub single : {E v w : List ℕ} → Erased L E → Forest L E → Agrees L E v w → Single (Agrees L E v)
  single {E} {v} {w} er f a = record { one = w; has = a; only_one = λ x b. forest_unique L ok E v x w er f b a }

  pub not_two : {E : List ℕ} → Erased L E → Forest L E → (v : List ℕ) → ¬ (TwoOrMore (Agrees L E v))
  not_two {E} er f v t = t.differ (forest_unique L ok E v t.one t.other er f t.has t.other_has)

  pub none : {E v l : List ℕ} → Erased L E → Inconsistent L E (at v) l → None (Agrees L E v)
  none {E} {v} {l} er p w a =
      let k = crossed L ok E er (at v) l p.component p.unbalanced (at w) (λ c m n. a.unmarked c (places_∈ L m).0 n) in
      k.2 (a.codeword.sums k.0 ((p.component.exact k.0).0 k.1).0)

  -- ---- message places

  pub messages_by_test : {l : List ℕ} → keep (closes L (places L)) (places L) ≡ l → Lists (Message L) l
  unfolding closes
  messages_by_test e =
      subst (λ k. Lists (Message L) k) e
      (record {
        rising = rising_keep (closes L (places L)) (rising_places L);
        exact = λ c. (
          λ m. let k = keep_∈ (closes L (places L)) (places L) m in
              record {
                inside = k.0;
                lowest_of_some = (path L ok (places L) c all k.0).0
                    (label_connected L (above c (places L)) (top L c) (bottom L c)
                    (eqb-true (label L (above c (places L)) (top L c)) (label L (above c (places L)) (bottom L c)) k.1));
              },
          λ p. ∈_keep (closes L (places L)) p.inside
              (eq-eqb (label L (above c (places L)) (top L c)) (label L (above c (places L)) (bottom L c))
              (connected_label ((path L ok (places L) c all p.inside).1 p.lowest_of_some))),
        );
      })
    where
      all : Erased L (places L)
      all = record { rising = rising_places L; inside = λ c m. m }

-- ---- cycles

pub cycle_by_test : (L : Layout) (E l : List ℕ) (half : ℕ) → length l ≡ 2 * half → 1 ≤ half →
    every (λ i. is_in (at l i) E && leb (at l 0) (at l i)) (up_to (length l)) ≡ true → once (at l) (length l) ≡ true →
    every (λ i. eqb (top L (at l (2 * i))) (top L (at l (2 * i + 1)))) (up_to half) ≡ true →
    every (λ i. eqb (bottom L (at l (2 * i + 1))) (bottom L (at l (2 * i + 2)))) (up_to (half - 1)) ≡ true →
    bottom L (at l (length l - 1)) ≡ bottom L (at l 0) →
    once (λ i. top L (at l (2 * i))) half ≡ true → once (λ i. bottom L (at l (2 * i + 1))) half ≡ true → Cycle L E l
cycle_by_test L E l half even least each distinct tops bottoms close tops_once bottoms_once =
    let both : (i : ℕ) → i < length l → (is_in (at l i) E ≡ true) × (leb (at l 0) (at l i) ≡ true) =
    λ i h. (and-eq-true_iff (is_in (at l i) E) (leb (at l 0) (at l i))).0 (every_below (λ i. is_in (at l i) E && leb (at l 0) (at l i)) each h) in
    record {
      half = half;
      even = even;
      least = least;
      inside = λ i h. is_in_∈ (at l i) E (both i h).0;
      distinct = once_law (at l) (length l) distinct;
      share_top = λ i h. eqb-true (top L (at l (2 * i))) (top L (at l (2 * i + 1)))
          (every_below (λ i. eqb (top L (at l (2 * i))) (top L (at l (2 * i + 1)))) tops h);
      share_bottom = λ i h. eqb-true (bottom L (at l (2 * i + 1))) (bottom L (at l (2 * i + 2)))
          (every_below (λ i. eqb (bottom L (at l (2 * i + 1))) (bottom L (at l (2 * i + 2)))) bottoms (let k : i < half - 1 = omega arith in k));
      close = close;
      tops_once = once_law (λ i. top L (at l (2 * i))) half tops_once;
      bottoms_once = once_law (λ i. bottom L (at l (2 * i + 1))) half bottoms_once;
      lowest = λ i h. leb-true (at l 0) (at l i) (both i h).1;
    }

-- ---- figures

-- the two relations as tests
unfoldable pub is_pair : ℕ → ℕ → Bool
is_pair i j = not (eqb i j)

unfoldable pub is_next : ℕ → ℕ → ℕ → Bool
is_next n i j = eqb j (i + 1) || (leb 3 n && (eqb (i + 1) n && eqb j 0))

pair_passes : (L : Layout) (i j : ℕ) → Pair L i j → is_pair i j ≡ true
unfolding is_pair
pair_passes L i j p = ap not (ne_eqb i j p.differ)

next_passes : (L : Layout) (i j : ℕ) → Neighbours L i j → is_next L.n i j ≡ true
unfolding is_next
next_passes L i j p =
    ⊎_elim (λ e. rw (eq-eqb j (i + 1) e) refl)
    (λ e. rw (le-leb 3 L.n e.0, eq-eqb (i + 1) L.n e.1, eq-eqb j 0 e.2) (or-true (eqb j (i + 1))))
    p.next

-- every pair of sections that the test r passes has a number that is, less 1, at least x
unfoldable pub numbers_from : Layout → (ℕ → ℕ → Bool) → ℕ → Bool
unfolding every_two
numbers_from L r x = every_two (λ i j. not (r i j) || leb x (pair_number L i j - 1)) L.sections

capability_by_test : (L : Layout) (R : ℕ → ℕ → Type 0) (r : ℕ → ℕ → Bool) → ((a b : ℕ) → R a b → Pair L a b × (r a b ≡ true)) →
    (i j x : ℕ) → R i j → x ≡ pair_number L i j - 1 → numbers_from L r x ≡ true → Least (Capability L R) x
unfolding numbers_from
capability_by_test L R r passes i j x related value h =
    record {
      has = record { i = i; j = j; related = related; value = value };
      least = λ y k.
          let p = passes k.i k.j k.related in
          let q = every_two_∈ (λ i j. not (r i j) || leb x (pair_number L i j - 1)) h p.0.first p.0.second in
          omega (arith, k.value, leb-true x (pair_number L k.i k.j - 1) (passed q p.1));
    }

pub pair_by_test : (L : Layout) (i j x : ℕ) → Pair L i j → x ≡ pair_number L i j - 1 → numbers_from L is_pair x ≡ true → Least (Capability L (Pair L)) x
pair_by_test L = capability_by_test L (Pair L) is_pair (λ a b p. (p, pair_passes L a b p))

pub neighbours_by_test : (L : Layout) (i j x : ℕ) → Neighbours L i j → x ≡ pair_number L i j - 1 → numbers_from L (is_next L.n) x ≡ true →
    Least (Capability L (Neighbours L)) x
neighbours_by_test L = capability_by_test L (Neighbours L) (is_next L.n) (λ a b p. (p.pair, next_passes L a b p))

-- pairs with the same p_i - p_j mod t are the same
unfoldable pub same_pair : Layout → ℕ → ℕ → ℕ → ℕ → Bool
same_pair L i j k l = not (eqb ((L.shift i + L.t - L.shift j) % L.t) ((L.shift k + L.t - L.shift l) % L.t)) || (eqb i k && eqb j l)

unfoldable pub is_ruler : Layout → Bool
unfolding every_two same_pair
is_ruler L = every_two (λ i j. eqb i j || every_two (λ k l. eqb k l || same_pair L i j k l) L.sections) L.sections

pub ruler_by_test : (L : Layout) → is_ruler L ≡ true → Ruler L
unfolding is_ruler same_pair
ruler_by_test L h =
    record {
      rule = λ i j k l p q e.
          let a = every_two_∈ (λ i j. eqb i j || every_two (λ k l. eqb k l || same_pair L i j k l) L.sections) h p.first p.second in
          let b = every_two_∈ (λ k l. eqb k l || same_pair L i j k l) (rw (ne_eqb i j p.differ) at a) q.first q.second in
          let c = passed (rw (ne_eqb k l q.differ) at b) (eq-eqb ((L.shift i + L.t - L.shift j) % L.t) ((L.shift k + L.t - L.shift l) % L.t) e) in
          let d = (and-eq-true_iff (eqb i k) (eqb j l)).0 c in
          (eqb-true i k d.0, eqb-true j l d.1);
    }

pub unequal_by_test : (L : Layout) → every_two (λ i j. eqb i j || not (eqb (L.shift i) (L.shift j))) L.sections ≡ true → ¬ (EqualShifts L)
unequal_by_test L h s =
    let a = every_two_∈ (λ i j. eqb i j || not (eqb (L.shift i) (L.shift j))) h s.pair.first s.pair.second in
    eqb-false (L.shift s.i) (L.shift s.j) (not-true (eqb (L.shift s.i) (L.shift s.j)) (rw (ne_eqb s.i s.j s.pair.differ) at a)) s.equal
