-- Places noted one after the other, in rising order: the table tallies those of a list below the place that has been come to.
-- Main results: seen_start, seen_skip (places that are not of the list), noted_notes (a place is noted), and how Due and Notes go on (notes_then, due_then);
-- `from_place` selects the places from a place on, `below` those below one.
use Rattle.std.specs.Prelude.{◌≡◌, List, [], ◌∷◌, ◌++◌, ℕ, ◌+◌, ◌-◌, ◌*◌, ◌≤◌, ◌<◌, leb, ltb, length, get_or, set, replicate}
use Rattle.std.proofs.Common.{sym, ◌∙◌, ap, subst, ⊎_elim, lt-ltb, le-ltb, ltb-true, le-leb, leb-true, get_or-set_other}
use Rattle.std.proofs.Math.Logic.{by_cases}
use mathlib.Core.List.Memᴰ
use mathlib.Core.List.Memᴰ.{head as here}
use mathlib.Core.List.Memᴰ.{not-nil}
use Rattle.std.proofs.Math.Nat.{mod-lt}
use Rattle.std.proofs.Math.Decide.{ℕ_discrete, dec_lt}
use native.Mathlib.Omega.{arith}
use Rattle.std.proofs.lemmas.List.{length-replicate, get_or-replicate}
use Rattle.math.specs.Members.{◌∈◌, keep, Rising, rising_none, rising_more}
use Rattle.math.specs.MembersLaws.{∈_keep, keep_∈, keep_all, keep_none, keep_ext, rising_keep, rising_append, rising_ext}
use Rattle.math.specs.Sums.{sum_over}
use Rattle.plan.specs.Layout.{Layout, layout, top, bottom, bottom_row}
use Rattle.plan.specs.GoodPlan.{GoodPlan, plan_valid}
use Rattle.code.specs.Rounds.{on_row}
use Rattle.code.specs.Laws.Forest.{Erased}
use Rattle.tables.specs.Picture.{Counted, tally_unit, weight}
use Rattle.tables.specs.Spots.{Stands, Reached}
use Rattle.tables.proofs.Spots.{reached_stands, stands_top, stands_bottom, stands_weight, stands_inside}
use Rattle.tables.specs.Sizes.{layout_t, good_∈}
use Rattle.tables.specs.PictureLaws.{counted_add}
use Rattle.tables.proofs.Bounds.{tally_room}
use Rattle.tables.specs.Counting.{All, Due, Noted, Notes, Ready, Seen, below, from_place}

pub from_zero : (E : List ℕ) → from_place 0 E ≡ E
unfolding from_place
from_zero E = keep_all (λ c. leb 0 c) E (λ c m. le-leb 0 c (omega arith))

pub in_from : {a c : ℕ} {E : List ℕ} → c ∈ E → a ≤ c → c ∈ from_place a E
unfolding from_place
in_from {a} {c} m h = ∈_keep (λ d. leb a d) m (le-leb a c h)

pub from_in : (a : ℕ) (E : List ℕ) {c : ℕ} → c ∈ from_place a E → (c ∈ E) × (a ≤ c)
unfolding from_place
from_in a E {c} m = let k = keep_∈ (λ d. leb a d) E m in (k.0, leb-true a c k.1)

pub in_below : {i c : ℕ} {E : List ℕ} → c ∈ E → c < i → c ∈ below i E
unfolding below
in_below {i} {c} m h = ∈_keep (λ d. ltb d i) m (lt-ltb c i h)

pub below_in : (i : ℕ) (E : List ℕ) {c : ℕ} → c ∈ below i E → (c ∈ E) × (c < i)
unfolding below
below_in i E {c} m = let k = keep_∈ (λ d. ltb d i) E m in (k.0, ltb-true c i k.1)

pub below_none : (E : List ℕ) → below 0 E ≡ []
unfolding below
below_none E = keep_none (λ c. ltb c 0) E (λ c m. le-ltb c 0 (omega arith))

pub below_all : (i : ℕ) (E : List ℕ) → ((c : ℕ) → c ∈ E → c < i) → below i E ≡ E
unfolding below
below_all i E h = keep_all (λ c. ltb c i) E (λ c m. lt-ltb c i (h c m))

rising_below : (i : ℕ) {E : List ℕ} → Rising E → Rising (below i E)
unfolding below
rising_below i r = rising_keep (λ c. ltb c i) r

-- nothing of E from i to i'
pub below_skip : (i i' : ℕ) (E : List ℕ) → i ≤ i' → ((c : ℕ) → i ≤ c → c < i' → ¬ (c ∈ E)) → below i' E ≡ below i E
unfolding below
below_skip i i' E g h =
    keep_ext (λ c. ltb c i') (λ c. ltb c i) E
    (λ c m. by_cases (dec_lt c i)
    (λ l. lt-ltb c i' (omega arith) ∙ sym (lt-ltb c i l))
    (λ l. by_cases (dec_lt c i') (λ k. absurd (h c (omega arith) k m)) (λ k. le-ltb c i' (omega arith) ∙ sym (le-ltb c i (omega arith)))))

-- i itself is of E
pub below_note : (i : ℕ) {E : List ℕ} → Rising E → i ∈ E → below (i + 1) E ≡ below i E ++ (i ∷ [])
below_note i {E} r m =
    rising_ext (rising_below (i + 1) r)
    (rising_append (rising_below i r) (rising_more (λ d e. absurd (not-nil e)) rising_none)
    (λ a b p q. subst (λ z. a < z) (sym (Memᴰ.eq_of_singleton q)) (below_in i E p).1))
    (λ c p. let k = below_in (i + 1) E p in
    by_cases (ℕ_discrete c i) (λ e. Memᴰ.append_right (below i E) (here e)) (λ n. Memᴰ.append_left (i ∷ []) (in_below k.0 (omega arith))))
    (λ c p. ⊎_elim
    (λ q. let k = below_in i E q in in_below k.0 (omega arith))
    (λ q. let e = Memᴰ.eq_of_singleton q in in_below (Memᴰ.cast e m) (omega arith))
    (Memᴰ.append_cases (below i E) p))

module _ {t p c j k : ℕ} {tally : List ℕ} (R : Ready t p c j k tally) where
  bottom_small : bottom_row t p k < 2 * t
  unfolding bottom_row
  bottom_small = let h : 0 < t = omega arith in omega (arith, mod-lt (k + t - p) h)

  bottom_large : t ≤ bottom_row t p k
  unfolding bottom_row
  bottom_large = omega arith

  -- its bottom row b is within a table of length m
  pub ready_bottom : {b m : ℕ} → b ≡ bottom_row t p k → m ≡ 2 * t → b < m
  ready_bottom e q = omega (arith, bottom_small)

  -- there is room for the weight w at row b, when it is added at row h
  pub room_bottom : {h b w : ℕ} {tally₁ : List ℕ} → h ≡ k → b ≡ bottom_row t p k → w ≡ tally_unit + j → tally₁ ≡ set tally h (get_or tally h 0 + w)
      → get_or tally₁ b 0 + w < 65536
  room_bottom {h} {b} {w} {tally₁} e f v q =
      let g : get_or tally₁ b 0 ≡ get_or tally b 0 = ap (λ l. get_or l b 0) q ∙ get_or-set_other tally h b (get_or tally h 0 + w) 0 (λ z. omega (arith, bottom_large)) in
      let m : b < 2 * t = omega (arith, bottom_small) in
      omega (arith, g, R.room b m, R.section)

-- the stores at rows h and b with weight w
pub noted : {t p j k h b w : ℕ} {tally tally₁ tally' : List ℕ} → h ≡ k → b ≡ bottom_row t p k → w ≡ tally_unit + j
    → tally₁ ≡ set tally h (get_or tally h 0 + w) → tally' ≡ set tally₁ b (get_or tally₁ b 0 + w) → Noted t p j k tally tally'
noted {tally₁ = tally₁} eh eb ew l l' = record { tally₁ = tally₁; at_top = rw (eh, ew) at l; at_bottom = rw (eb, ew) at l' }

-- none yet
pub counted_none : (n t : ℕ) (shifts : List ℕ) {tally : List ℕ} → tally ≡ replicate (2 * t) 0 → Counted (layout n t shifts) [] tally
unfolding layout on_row keep sum_over
counted_none n t shifts {tally} k =
    record {
      long = rw k (length-replicate (2 * t) 0);
      erased = record { rising = rising_none; inside = λ c m. absurd (not-nil m) };
      tallies = λ r h. rw k (get_or-replicate (2 * t) r 0 0 h);
    }

pub seen_start : {n t : ℕ} {shifts : List ℕ} (E : List ℕ) {tally : List ℕ} → tally ≡ replicate (2 * t) 0 → Seen n t shifts E 0 tally
seen_start {n} {t} {shifts} E {tally} k =
    record { counted = subst (λ F. Counted (layout n t shifts) F tally) (sym (below_none E)) (counted_none n t shifts k) }

pub seen_long : {n t : ℕ} {shifts E : List ℕ} {c : ℕ} {tally : List ℕ} → Seen n t shifts E c tally → length tally ≡ 2 * t
unfolding layout
seen_long S = S.counted.long

pub seen_at : {n t : ℕ} {shifts E : List ℕ} {c d : ℕ} {tally : List ℕ} → c ≡ d → Seen n t shifts E c tally → Seen n t shifts E d tally
seen_at {n} {t} {shifts} {E} {tally = tally} e S = subst (λ z. Seen n t shifts E z tally) e S

-- from c to c' there is none of E
pub seen_skip : {n t : ℕ} {shifts E : List ℕ} {c : ℕ} {tally : List ℕ} (c' : ℕ) → Seen n t shifts E c tally
    → c ≤ c' → ((d : ℕ) → c ≤ d → d < c' → ¬ (d ∈ E)) → Seen n t shifts E c' tally
seen_skip {n} {t} {shifts} {E} {c} {tally} c' S g h =
    record { counted = subst (λ F. Counted (layout n t shifts) F tally) (sym (below_skip c c' E g h)) S.counted }

-- all are noted
pub seen_all : {n t : ℕ} {shifts E : List ℕ} {c : ℕ} {tally : List ℕ} → GoodPlan n t shifts → Erased (layout n t shifts) E → Seen n t shifts E c tally
    → n * t ≤ c → Counted (layout n t shifts) E tally
seen_all {n} {t} {shifts} {E} {c} {tally} s er S h =
    subst (λ F. Counted (layout n t shifts) F tally) (below_all c E (λ d m. omega (arith, good_∈ s (er.inside d m)))) S.counted

-- ---- Due and Notes

pub notes_none : {n t : ℕ} {shifts : List ℕ} {c : ℕ} {tally : List ℕ} → Notes n t shifts c c tally tally
notes_none = record { notes = λ E er a S. S }

pub notes_then : {n t : ℕ} {shifts : List ℕ} {c d e : ℕ} {tally tally₁ tally' : List ℕ} → c ≤ d → d ≤ e
    → Notes n t shifts c d tally tally₁ → Notes n t shifts d e tally₁ tally' → Notes n t shifts c e tally tally'
notes_then h l A B =
    record {
      notes = λ E er a S. B.notes E er (λ x y z. a x (omega arith) z) (A.notes E er (λ x y z. a x y (omega arith)) S);
    }

pub notes_at : {n t : ℕ} {shifts : List ℕ} {c d e : ℕ} {tally tally' : List ℕ} → d ≡ e → Notes n t shifts c d tally tally'
    → Notes n t shifts c e tally tally'
notes_at {n} {t} {shifts} {c} {tally = tally} {tally' = tally'} q N =
    subst (λ z. Notes n t shifts c z tally tally') q N

pub due_then : {n t : ℕ} {shifts : List ℕ} {c d e : ℕ} {tally tally' : List ℕ} → c ≤ d → d ≤ e → Due n t shifts c e tally
    → Notes n t shifts c d tally tally' → Due n t shifts d e tally'
due_then h l D A =
    record {
      good = D.good;
      E = D.E;
      erased = D.erased;
      all = λ x y z. D.all x (omega arith) z;
      seen = A.notes D.E D.erased (λ x y z. D.all x y (omega arith)) D.seen;
    }

module _ {n t : ℕ} {shifts : List ℕ} {c e : ℕ} {tally : List ℕ} (D : Due n t shifts c e tally) where
  pub due_long : length tally ≡ 2 * t
  due_long = seen_long D.seen

  -- they are places
  pub due_inside : c < e → e ≤ n * t
  due_inside h =
      let m : e - 1 ∈ D.E = D.all (e - 1) (omega arith) (omega arith) in
      omega (arith, good_∈ D.good (D.erased.inside (e - 1) m))

  pub due_ready : {j k : ℕ} → c < e → Stands t c j k → Ready t (get_or shifts j 0) c j k tally
  unfolding layout
  due_ready {j} h st =
      let i : j < n = stands_inside st n (omega (arith, due_inside h)) in
      record {
        stands = st;
        shift = D.good.below j i;
        t_max = D.good.t_max;
        section = omega (arith, D.good.n_max);
        long = due_long;
        room = λ r l. tally_room D.good D.seen.counted l;
      }

  -- the same at the section that a scan has reached
  pub due_here : {j begin end p : ℕ} → c < e → Reached n t shifts c j begin end p → c < end → Ready t p c j (c - begin) tally
  due_here {j} {begin} h R l = subst (λ z. Ready t z c j (c - begin) tally) (sym R.shift) (due_ready h (reached_stands R l))

-- a place is noted
pub noted_notes : {n t : ℕ} {shifts : List ℕ} {c j k : ℕ} {tally tally' : List ℕ} → GoodPlan n t shifts → Stands t c j k
    → Noted t (get_or shifts j 0) j k tally tally' → Notes n t shifts c (c + 1) tally tally'
noted_notes {n} {t} {shifts} {c} {j} {k} {tally} {tally'} s st D = record { notes = step }
  where
    L : Layout
    L = layout n t shifts

    T : top L c ≡ k
    T = stands_top st n shifts

    B : bottom L c ≡ bottom_row t (get_or shifts j 0) k
    B = stands_bottom st n shifts

    W : weight L.t c ≡ tally_unit + j
    W = ap (λ z. weight z c) (layout_t n t shifts) ∙ stands_weight st

    step : (E : List ℕ) → Erased L E → All E c (c + 1) → Seen n t shifts E c tally → Seen n t shifts E (c + 1) tally'
    step E er a S =
        let m : c ∈ E = a c (omega arith) (omega arith) in
        record {
          counted = subst (λ F. Counted L F tally') (sym (below_note c er.rising m))
              (counted_add L (plan_valid s) c S.counted D.tally₁ tally' (er.inside c m) (λ d i. (below_in c E i).1)
              (rw (T, W) D.at_top) (rw (B, W) D.at_bottom));
        }

pub noted_here : {n t : ℕ} {shifts : List ℕ} {c j begin end p : ℕ} {tally tally' : List ℕ} → GoodPlan n t shifts → Reached n t shifts c j begin end p → c < end
    → Noted t p j (c - begin) tally tally' → Notes n t shifts c (c + 1) tally tally'
noted_here {t = t} {c = c} {j = j} {begin = begin} {tally = tally} {tally' = tally'} s R h D =
    noted_notes s (reached_stands R h) (subst (λ z. Noted t z j (c - begin) tally tally') R.shift D)
