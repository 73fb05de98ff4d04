-- Labels: the lowest row of each row's component, computed place by place. They make "connected" decidable.
-- Main results: label_connected and connected_label (labels are equal exactly when rows are connected), label_lowest, dec_connected,
-- component_is and component_unique (the components are the classes of equal labels).
use Rattle.std.specs.Prelude.{◌≡◌, refl, ◌≢◌, ◌⊎◌, List, [], ◌∷◌, ℕ, ◌*◌, ◌≤◌, ◌<◌, min, eqb, length}
use Rattle.std.proofs.Common.{sym, ◌∙◌, ap, subst, inl, inr, ⊎_elim, le_refl, arith, eq-eqb, ne_eqb, eqb-true}
use Rattle.std.proofs.Math.Logic.{⊎_map, by_cases}
use Rattle.std.proofs.Math.Bool.{or-true}
use mathlib.Core.List.Memᴰ.{head}
use mathlib.Core.List.Memᴰ.{tail}
use Rattle.std.proofs.Math.Decide.{ℕ_discrete, dec_le, dec_lt, map_dec}
use Rattle.std.proofs.Math.ListN.{get_or-eq_default}
use Rattle.math.specs.Members.{◌∈◌, Rising}
use Rattle.math.specs.MembersLaws.{∈_keep, keep_∈, rising_keep, rising_first, rising_ext}
use Rattle.math.specs.Pigeonhole.{get_or_∈}
use Rattle.plan.specs.Layout.{Layout, top, bottom}
use Rattle.code.specs.Places.{rows, Meets}
use Rattle.code.specs.Codewords.{at}
use Rattle.code.specs.Components.{Connected, here, along, Component}
use Rattle.code.proofs.Laws.Basics.{∈_rows, rows_∈, rising_rows}
use Rattle.code.specs.Laws.Labels.{component_of, label, merge}

pub merge_in : (a b x : ℕ) → (x ≡ a) ⊎ (x ≡ b) → merge a b x ≡ min a b
unfolding merge
merge_in a b x (inl e) = rw (eq-eqb x a e)
merge_in a b x (inr e) = rw (eq-eqb x b e, or-true (eqb x a))

pub merge_out : (a b x : ℕ) → x ≢ a → x ≢ b → merge a b x ≡ x
unfolding merge
merge_out a b x f g = rw (ne_eqb x a f, ne_eqb x b g)

pub by_merge : {C : Type 0} (a b x : ℕ) → ((x ≡ a) ⊎ (x ≡ b) → merge a b x ≡ min a b → C) → (x ≢ a → x ≢ b → merge a b x ≡ x → C) → C
by_merge a b x f g =
    by_cases (ℕ_discrete x a) (λ e. f (inl e) (merge_in a b x (inl e)))
    (λ n. by_cases (ℕ_discrete x b) (λ e. f (inr e) (merge_in a b x (inr e))) (λ m. g n m (merge_out a b x n m)))

pub merge_le : (a b x : ℕ) → merge a b x ≤ x
merge_le a b x =
    by_merge a b x (⊎_elim (λ e h. omega arith) (λ e h. omega arith)) (λ n m h. omega arith)

pub min_one : (a b : ℕ) → (min a b ≡ a) ⊎ (min a b ≡ b)
min_one a b = by_cases (dec_le a b) (λ h. inl (omega arith)) (λ h. inr (omega arith))

-- merged labels are equal only if they were, or if both are among the two
pub merge_eq : (a b x y : ℕ) → merge a b x ≡ merge a b y → (x ≡ y) ⊎ (((x ≡ a) ⊎ (x ≡ b)) × ((y ≡ a) ⊎ (y ≡ b)))
merge_eq a b x y e =
    let out : (z : ℕ) → z ≢ a → z ≢ b → min a b ≢ z = λ z n m q. ⊎_elim (λ p. n (sym q ∙ p)) (λ p. m (sym q ∙ p)) (min_one a b) in
    by_merge a b x
    (λ i p. by_merge a b y (λ j q. inr (i, j)) (λ n m q. absurd (out y n m (sym p ∙ e ∙ q))))
    (λ n m p. by_merge a b y (λ j q. absurd (out x n m (sym q ∙ sym e ∙ p))) (λ _ _ q. inl (sym p ∙ e ∙ q)))

first_∈ : {c : ℕ} {l : List ℕ} → c ∈ l → at l 0 ∈ l
first_∈ (head e) = head refl
first_∈ (tail m) = head refl

-- connected rows
pub connected_trans : {L : Layout} {E : List ℕ} {r s u : ℕ} → Connected L E r s → Connected L E s u → Connected L E r u
connected_trans p here = p
connected_trans p (along c q m a b) = along c (connected_trans p q) m a b

pub connected_sym : {L : Layout} {E : List ℕ} {r s : ℕ} → Connected L E r s → Connected L E s r
connected_sym here = here
connected_sym (along c q m a b) = connected_trans (along c here m b a) (connected_sym q)

pub connected_mono : {L : Layout} {E F : List ℕ} {r s : ℕ} → ((c : ℕ) → c ∈ E → c ∈ F) → Connected L E r s → Connected L F r s
connected_mono h here = here
connected_mono h (along c q m a b) = along c (connected_mono h q) (h c m) a b

pub connected_more : {L : Layout} (c : ℕ) {E : List ℕ} {r s : ℕ} → Connected L E r s → Connected L (c ∷ E) r s
connected_more c = connected_mono (λ d m. tail m)

pub connected_eq : (L : Layout) (E : List ℕ) {r s : ℕ} → r ≡ s → Connected L E r s
connected_eq L E {r} e = subst (λ s. Connected L E r s) e here

-- the two rows of a place
pub connected_place : (L : Layout) {c : ℕ} {E : List ℕ} → c ∈ E → Connected L E (top L c) (bottom L c)
connected_place L {c} m = along c here m (inl refl) (inr refl)

near_top : (L : Layout) (c : ℕ) {E : List ℕ} {r : ℕ} → Connected L E r (top L c) ⊎ Connected L E r (bottom L c) → Connected L (c ∷ E) r (top L c)
near_top L c (inl p) = connected_more c p
near_top L c (inr p) = connected_trans (connected_more c p) (connected_sym (connected_place L (head refl)))

-- labels are equal exactly when rows are connected
pub label_connected : (L : Layout) (E : List ℕ) (r s : ℕ) → label L E r ≡ label L E s → Connected L E r s
unfolding label
label_connected L [] r s e = connected_eq L [] e
label_connected L (c ∷ es) r s e =
    ⊎_elim (λ q. connected_more c (label_connected L es r s q))
    (λ q. connected_trans (near_top L c (⊎_map (label_connected L es r (top L c)) (label_connected L es r (bottom L c)) q.0))
    (connected_sym (near_top L c (⊎_map (label_connected L es s (top L c)) (label_connected L es s (bottom L c)) q.1))))
    (merge_eq (label L es (top L c)) (label L es (bottom L c)) (label L es r) (label L es s) e)

pub label_place : (L : Layout) {c : ℕ} {E : List ℕ} → c ∈ E → label L E (top L c) ≡ label L E (bottom L c)
unfolding label
label_place L {c} (head {x = x} {xs = es} e) =
    let a = label L es (top L x) in
    let b = label L es (bottom L x) in
    merge_in a b (label L es (top L c)) (inl (ap (λ d. label L es (top L d)) e))
    ∙ sym (merge_in a b (label L es (bottom L c)) (inr (ap (λ d. label L es (bottom L d)) e)))
label_place L (tail {x = x} {xs = es} m) = ap (merge (label L es (top L x)) (label L es (bottom L x))) (label_place L m)

pub label_meets : (L : Layout) {c r : ℕ} {E : List ℕ} → c ∈ E → Meets L c r → label L E r ≡ label L E (top L c)
label_meets L {E} m (inl e) = ap (label L E) e
label_meets L {E} m (inr e) = ap (label L E) e ∙ sym (label_place L m)

pub connected_label : {L : Layout} {E : List ℕ} {r s : ℕ} → Connected L E r s → label L E r ≡ label L E s
connected_label here = refl
connected_label {L} (along c q m a b) = connected_label q ∙ label_meets L m a ∙ sym (label_meets L m b)

pub dec_connected : (L : Layout) (E : List ℕ) (r s : ℕ) → Dec (Connected L E r s)
dec_connected L E r s = map_dec (label_connected L E r s) connected_label (ℕ_discrete (label L E r) (label L E s))

-- a label is a row of the component, the lowest
pub label_le : (L : Layout) (E : List ℕ) (r : ℕ) → label L E r ≤ r
unfolding label
label_le L [] r = le_refl r
label_le L (c ∷ es) r = omega (arith, merge_le (label L es (top L c)) (label L es (bottom L c)) (label L es r), label_le L es r)

pub label_lt : (L : Layout) (E : List ℕ) {r n : ℕ} → r < n → label L E r < n
label_lt L E {r} h = omega (arith, label_le L E r)

-- a place's rows and the lower of their labels
lower_own : (L : Layout) (c : ℕ) {E : List ℕ} {a b : ℕ} → Connected L E (top L c) a → Connected L E (bottom L c) b → Connected L (c ∷ E) (top L c) (min a b)
lower_own L c {E} {a} {b} p q =
    ⊎_elim (λ e. connected_trans (connected_more c p) (connected_eq L (c ∷ E) (sym e)))
    (λ e. connected_trans (connected_place L (head refl)) (connected_trans (connected_more c q) (connected_eq L (c ∷ E) (sym e))))
    (min_one a b)

pub connected_own : (L : Layout) (E : List ℕ) (r : ℕ) → Connected L E r (label L E r)
unfolding label
connected_own L [] r = here
connected_own L (c ∷ es) r =
    let a : ℕ = label L es (top L c) in
    let b : ℕ = label L es (bottom L c) in
    by_merge a b (label L es r)
    (λ i e. connected_trans (near_top L c (⊎_map (label_connected L es r (top L c)) (label_connected L es r (bottom L c)) i))
    (connected_trans (lower_own L c (connected_own L es (top L c)) (connected_own L es (bottom L c))) (connected_eq L (c ∷ es) (sym e))))
    (λ n m e. connected_trans (connected_more c (connected_own L es r)) (connected_eq L (c ∷ es) (sym e)))

pub label_idem : (L : Layout) (E : List ℕ) (r : ℕ) → label L E (label L E r) ≡ label L E r
label_idem L E r = sym (connected_label (connected_own L E r))

pub label_lowest : {L : Layout} {E : List ℕ} {r s : ℕ} → Connected L E r s → label L E r ≤ s
label_lowest {L} {E} {r} {s} p = omega (arith, connected_label p, label_le L E s)

-- a place whose rows are connected changes no label
pub label_same : (L : Layout) (c : ℕ) (E : List ℕ) → Connected L E (top L c) (bottom L c) → (r : ℕ) → label L (c ∷ E) r ≡ label L E r
unfolding label
label_same L c E p r =
    let e = connected_label p in
    by_merge (label L E (top L c)) (label L E (bottom L c)) (label L E r)
    (⊎_elim (λ q h. omega arith) (λ q h. omega arith)) (λ n m h. h)

pub ∈_component_of : (L : Layout) (E : List ℕ) (r : ℕ) {s : ℕ} → s < 2 * L.t → label L E s ≡ label L E r → s ∈ component_of L E r
unfolding component_of
∈_component_of L E r {s} h e = ∈_keep (λ u. eqb (label L E u) (label L E r)) (∈_rows L h) (eq-eqb (label L E s) (label L E r) e)

pub component_of_∈ : (L : Layout) (E : List ℕ) (r : ℕ) {s : ℕ} → s ∈ component_of L E r → (s < 2 * L.t) × (label L E s ≡ label L E r)
unfolding component_of
component_of_∈ L E r {s} m =
    let k = keep_∈ (λ u. eqb (label L E u) (label L E r)) (rows L) m in
    (rows_∈ L k.0, eqb-true (label L E s) (label L E r) k.1)

pub rising_component_of : (L : Layout) (E : List ℕ) (r : ℕ) → Rising (component_of L E r)
unfolding component_of
rising_component_of L E r = rising_keep (λ u. eqb (label L E u) (label L E r)) (rising_rows L)

pub component_of_first : (L : Layout) (E : List ℕ) {r : ℕ} → r < 2 * L.t → at (component_of L E r) 0 ≡ label L E r
component_of_first L E {r} h =
    let m = ∈_component_of L E r (label_lt L E h) (label_idem L E r) in
    let k = component_of_∈ L E r (first_∈ m) in
    omega (arith, rising_first (rising_component_of L E r) m, label_le L E (at (component_of L E r) 0), k.1)

pub component_is : (L : Layout) (E : List ℕ) {r : ℕ} → r < 2 * L.t → Component L E (component_of L E r)
component_is L E {r} h =
    let e : at (component_of L E r) 0 ≡ label L E r = component_of_first L E h in
    record {
      rising = rising_component_of L E r;
      exact = λ s. (
        (λ m. let k = component_of_∈ L E r m in
            (k.0, label_connected L E (at (component_of L E r) 0) s (ap (label L E) e ∙ label_idem L E r ∙ sym k.1))),
        (λ p. ∈_component_of L E r p.0 (sym (connected_label p.1) ∙ ap (label L E) e ∙ label_idem L E r)),
      );
    }

pub component_unique : {L : Layout} {E l : List ℕ} → Component L E l → l ≡ component_of L E (at l 0)
component_unique {L} {E} {l} p =
    rising_ext p.rising (rising_component_of L E (at l 0))
    (λ s m. let k = (p.exact s).0 m in ∈_component_of L E (at l 0) k.0 (sym (connected_label k.1)))
    (λ s m. let k = component_of_∈ L E (at l 0) m in (p.exact s).1 (k.0, label_connected L E (at l 0) s (sym k.1)))

-- the first row of a component is a row of it, and its own label
pub component_first : {L : Layout} {E l : List ℕ} → 0 < L.t → Component L E l → at l 0 < 2 * L.t
component_first {l} h p = by_cases (dec_lt 0 (length l)) (λ k. ((p.exact (at l 0)).0 (get_or_∈ l k)).0)
    (λ n. let e : at l 0 ≡ 0 = get_or-eq_default l 0 {n = 0} (omega arith) in omega arith)

pub component_label : {L : Layout} {E l : List ℕ} → 0 < L.t → Component L E l → label L E (at l 0) ≡ at l 0
component_label {L} {E} {l} h p = sym (ap (λ m. at m 0) (component_unique p) ∙ component_of_first L E (component_first h p))
