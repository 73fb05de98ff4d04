-- The walk over the marked places from high to low: its parents join the places passed, and it remembers the first place that closes a cycle.
-- Main results: joins_more (one more place), told_join (whether it closes a cycle), passed_labelled (settled parents are labels).
use Rattle.std.specs.Prelude.{◌≡◌, refl, Bool, true, false, List, [], ◌∷◌, ℕ, ◌+◌, ◌*◌, ◌≤◌, ◌<◌, leb, length, get_or, Option, Some, None}
use Rattle.std.proofs.Common.{sym, ◌∙◌, ap, subst, ⊎_elim, add-one, arith, le-leb, leb-true}
use Rattle.std.proofs.Math.Logic.{by_cases}
use mathlib.Core.List.Memᴰ
use mathlib.Core.List.Memᴰ.{head}
use mathlib.Core.List.Memᴰ.{tail}
use Rattle.std.proofs.Math.Decide.{ℕ_discrete, dec_le}
use Rattle.std.proofs.lemmas.Bool.{lt-leb}
use Rattle.math.specs.Members.{◌∈◌, keep, Rising, rising_more}
use Rattle.math.specs.MembersLaws.{by_place, keep_all, keep_none, keep_ext, rising_keep, rising_ext, ∈_keep, keep_∈}
use Rattle.plan.specs.Layout.{Layout, top, bottom}
use Rattle.code.specs.Places.{Meets}
use Rattle.code.specs.Components.{Connected, here, along}
use Rattle.code.specs.Laws.Forest.{Forest, forest_more, above}
use Rattle.code.specs.Laws.Labels.{label}
use Rattle.code.proofs.Laws.Labels.{label_connected, connected_label, label_place, label_le, label_idem, connected_more, connected_own}
use Rattle.tables.specs.Spots.{Stands}
use Rattle.components.specs.Parents.{Falls, Along, Same, Settled, Unites, United, Joint, Apart}
use Rattle.tables.specs.declared.walk.Spot.{Spot}

-- the parents p join the places of E and nothing else
pub record Joins (L : Layout) (E p : List ℕ) : Type 0 where
  pub long : length p ≡ 2 * L.t
  pub falls : Falls p
  pub labels : Along p (label L E)
  pub places : (f : ℕ → ℕ) → Along p f → (c : ℕ) → c ∈ E → f (top L c) ≡ f (bottom L c)

-- place c closes a cycle of places of E above it, which are a forest: it is the highest that does
pub record Closes (L : Layout) (E : List ℕ) (c : ℕ) : Type 0 where
  pub marked : c ∈ E
  pub forest : Forest L (above c E)
  pub connected : Connected L (above c E) (top L c) (bottom L c)

-- what an answer says of the places E: the highest that closes a cycle, with its section and offset, or that they are a forest
abbrev pub Closed : Layout → List ℕ → Option Spot → Type 0
Closed L E (Some s) = Closes L E s.place.0 × Stands L.t s.place.0 s.section s.offset
Closed L E None = Forest L E

-- the places of E from c on
unfoldable pub since : ℕ → List ℕ → List ℕ
since c E = keep (λ d. leb c d) E

-- the walk has passed every place
pub record Passed (L : Layout) (E p : List ℕ) (k : Option Spot) : Type 0 where
  pub joins : Joins L E p
  pub closed : Closed L E k

-- the table is that of the labels, and the answer is right
pub record Labelled (L : Layout) (E p : List ℕ) (k : Option Spot) : Type 0 where
  pub long : length p ≡ 2 * L.t
  pub labels : (r : ℕ) → r < 2 * L.t → get_or p r 0 ≡ label L E r
  pub closed : Closed L E k

-- ---- places passed

pub since_all : (E : List ℕ) → since 0 E ≡ E
unfolding since
since_all E = keep_all (λ d. leb 0 d) E (λ d m. le-leb 0 d (omega arith))

pub since_none : (c : ℕ) (E : List ℕ) → ((d : ℕ) → d ∈ E → d < c) → since c E ≡ []
unfolding since
since_none c E h = keep_none (λ d. leb c d) E (λ d m. lt-leb c d (h d m))

∈_since : {c d : ℕ} {E : List ℕ} → d ∈ E → c ≤ d → d ∈ since c E
unfolding since
∈_since {c} {d} m h = ∈_keep (λ e. leb c e) m (le-leb c d h)

since_∈ : (c : ℕ) (E : List ℕ) {d : ℕ} → d ∈ since c E → (d ∈ E) × (c ≤ d)
unfolding since
since_∈ c E {d} m = let k = keep_∈ (λ e. leb c e) E m in (k.0, leb-true c d k.1)

rising_since : (c : ℕ) {E : List ℕ} → Rising E → Rising (since c E)
unfolding since
rising_since c r = rising_keep (λ d. leb c d) r

-- no place of E from a to b
pub since_skip : (a b : ℕ) (E : List ℕ) → a ≤ b → ((d : ℕ) → d ∈ E → a ≤ d → d < b → ⊥) → since b E ≡ since a E
unfolding since
since_skip a b E l h = keep_ext (λ d. leb b d) (λ d. leb a d) E (λ d m.
    by_cases (dec_le b d)
    (λ k. le-leb b d k ∙ sym (le-leb a d (omega arith)))
    (λ k. lt-leb b d (omega arith) ∙ sym (lt-leb a d (by_cases (dec_le a d) (λ j. absurd (h d m j (omega arith))) (λ j. omega arith)))))

pub since_above : (c : ℕ) (E : List ℕ) → since (c + 1) E ≡ above c E
unfolding since above
since_above c E = rw (add-one c)

pub since_more : {c : ℕ} {E : List ℕ} → Rising E → c ∈ E → since c E ≡ c ∷ since (c + 1) E
since_more {c} {E} r m =
    rising_ext (rising_since c r)
    (rising_more (λ d k. omega (arith, (since_∈ (c + 1) E k).1)) (rising_since (c + 1) r))
    (λ d k. let o = since_∈ c E k in
    by_cases (ℕ_discrete d c) head (λ n. tail (∈_since o.0 (omega (arith, o.1)))))
    (λ d k. by_place k (λ e. ∈_since (subst (λ x. x ∈ E) (sym e) m) (omega arith))
    (λ j. let o = since_∈ (c + 1) E j in ∈_since o.0 (omega (arith, o.1))))

-- ---- parents and places

pub joins_none : (L : Layout) (p : List ℕ) → length p ≡ 2 * L.t → ((r : ℕ) → r < length p → get_or p r 0 ≡ r) → Joins L [] p
joins_none L p l h = record {
  long = l;
  falls = λ r k. omega (arith, h r k);
  labels = λ r k. ap (label L []) (h r k);
  places = λ f a c m. absurd (Memᴰ.not-nil m);
}

pub joins_same : {L : Layout} {E p q : List ℕ} → Joins L E p → Same p q → Joins L E q
joins_same {L} {E} j s = record {
  long = s.long ∙ j.long;
  falls = s.falls;
  labels = s.on (label L E) j.labels;
  places = λ f a. j.places f (s.back f a);
}

-- what is constant along the parents is the same at connected rows
pub joins_connected : {L : Layout} {E p : List ℕ} → Joins L E p → (f : ℕ → ℕ) → Along p f → {r s : ℕ} → Connected L E r s → f r ≡ f s
joins_connected j f a here = refl
joins_connected {L} j f a (along {s = s} {u = u} c q m x y) =
    let at : (v : ℕ) → Meets L c v → f v ≡ f (top L c) = λ v. ⊎_elim (λ e. ap f e) (λ e. ap f e ∙ sym (j.places f a c m)) in
    joins_connected j f a q ∙ at s x ∙ sym (at u y)

-- one more place: its rows joined
pub joins_more : {L : Layout} {E p q : List ℕ} (c : ℕ) → Joins L E p → United p (top L c) (bottom L c) q → Joins L (c ∷ E) q
joins_more {L} {E} c j u = record {
  long = u.long ∙ j.long;
  falls = u.falls;
  labels = u.on (label L (c ∷ E))
      (λ r h. connected_label (connected_more c (label_connected L E _ _ (j.labels r h))))
      (label_place L (head refl));
  places = λ f a d m. let b = u.back f a in
      by_place m (λ e. subst (λ x. f (top L x) ≡ f (bottom L x)) (sym e) b.1) (j.places f b.0 d);
}

pub joint_connected : {L : Layout} {E p : List ℕ} → Joins L E p → {r s : ℕ} → Joint p r s true → Connected L E r s
joint_connected {L} {E} j {r} {s} h = label_connected L E r s (h (label L E) j.labels)

pub apart_connected : {L : Layout} {E p : List ℕ} → Joins L E p → {r s : ℕ} → Apart p r s → ¬ (Connected L E r s)
apart_connected j a c = a.differ (joins_connected j a.f a.along c)

-- settled parents are labels
pub joins_labels : {L : Layout} {E p : List ℕ} → Joins L E p → ((r : ℕ) → r < length p → get_or p (get_or p r 0) 0 ≡ get_or p r 0)
    → (r : ℕ) → r < 2 * L.t → get_or p r 0 ≡ label L E r
joins_labels {L} {E} {p} j flat r h =
    let q : ℕ = label L E r in
    let k : q < length p = omega (arith, label_le L E r, j.long) in
    let same : get_or p r 0 ≡ get_or p q 0 = joins_connected j (λ s. get_or p s 0) flat (connected_own L E r) in
    let low : q ≤ get_or p q 0 = omega (arith, label_le L E (get_or p q 0), j.labels q k, label_idem L E r) in
    omega (arith, j.falls q k, same)

-- ---- the walk

-- what is said of place c, the lowest that is passed, where those passed before it are a forest: it closes a cycle, or they are a forest still
abbrev pub Told : Layout → List ℕ → ℕ → Bool → Type 0
Told L E c true = Closes L E c
Told L E c false = Forest L (since c E)

-- one more place, whose rows are joined
module _ {L : Layout} {E p q : List ℕ} (c : ℕ) (r : Rising E) (m : c ∈ E) (j : Joins L (since (c + 1) E) p) where
  pub joins_since : United p (top L c) (bottom L c) q → Joins L (since c E) q
  joins_since u = subst (λ F. Joins L F q) (sym (since_more r m)) (joins_more c j u)

  pub told_join : (b : Bool) → Unites p (top L c) (bottom L c) q b → Forest L (since (c + 1) E) → Told L E c b
  told_join true u f =
      let e = since_above c E in
      record {
        marked = m;
        forest = subst (λ F. Forest L F) e f;
        connected = subst (λ F. Connected L F (top L c) (bottom L c)) e (joint_connected j u.joint);
      }
  told_join false u f = subst (λ F. Forest L F) (sym (since_more r m)) (forest_more (apart_connected j u.joint) f)

-- the parents settled: they are the labels
pub passed_labelled : {L : Layout} {E p q : List ℕ} {k : Option Spot} → Passed L E p k → Settled p q (length p) → Labelled L E q k
passed_labelled w s =
    let j = joins_same w.joins s.same in
    record { long = j.long; labels = joins_labels j (λ r h. s.flat r (omega (arith, s.same.long))); closed = w.closed }

-- the labels are rows
pub labelled_in : {L : Layout} {E p : List ℕ} {k : Option Spot} → Labelled L E p k → (r : ℕ) → r < 2 * L.t → get_or p r 0 < 2 * L.t
labelled_in {L} {E} m r h = omega (arith, m.labels r h, label_le L E r)
