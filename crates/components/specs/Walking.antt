-- The walk over the marks as the code makes it: the place with its section and offset, and the bits of the marks.
-- Main results: joinable, stepped_gap, stepped_join (the steps), descending_more, descends_at, descends_none (several), passed_at, passed_none (all).
use Rattle.std.specs.Prelude.{◌≡◌, refl, ◌≢◌, Bool, true, false, ◌&&◌, List, ℕ, ◌+◌, ◌-◌, ◌*◌, ◌/◌, ◌≤◌, ◌<◌, length, get_or, Option, Some, None}
use Rattle.std.proofs.Common.{sym, ◌∙◌, ap, true≢false, mod-lt, div-lt_iff_lt-mul, arith}
use Rattle.std.proofs.Math.Path.{subst}
use Rattle.std.proofs.Math.Logic.{by_cases}
use Rattle.std.proofs.Math.Decide.{ℕ_discrete}
use Rattle.bounds.specs.Bounds.{max_n, max_t}
use Rattle.math.specs.Tests.{and_left, and_right}
use Rattle.math.specs.Members.{◌∈◌}
use Rattle.math.specs.MembersLaws.{∈_up_to}
use Rattle.plan.specs.Layout.{Layout, layout, top, bottom, bottom_row}
use Rattle.code.specs.Marks.{mark, erasures}
use Rattle.code.specs.Laws.Forest.{Forest, forest_none}
use Rattle.code.proofs.Laws.Basics.{places_∈, ∈_places}
use Rattle.code.proofs.Laws.MarksLaws.{in_erasures, rising_erasures, mark_bit}
use Rattle.bits.specs.Words.{Clear}
use Rattle.tables.specs.Spots.{Stands}
use Rattle.tables.proofs.Spots.{stands_inside, stands_top, stands_bottom}
use Rattle.tables.specs.declared.walk.Spot.{Spot}
use Rattle.components.specs.Parents.{Falls, Unites, Own}
use Rattle.components.specs.Gaps.{Gap}
use Rattle.components.specs.Walks.{Joins, Told, Passed, since, since_all, since_none, since_skip, joins_none, joins_since, told_join}
use Rattle.plan.specs.GoodPlan.{GoodPlan}

-- a place whose rows can be joined in the table p
pub record Joinable (n t : ℕ) (p : List ℕ) (c j k : ℕ) : Type 0 where
  pub stands : Stands t c j k
  pub inside : c < n * t
  pub long : length p ≡ 2 * t
  pub falls : Falls p

-- the rows of place c joined
abbrev pub UnitesAt : Layout → ℕ → List ℕ → List ℕ → Bool → Type 0
UnitesAt L c p q b = Unites p (top L c) (bottom L c) q b

-- the walk stands at place c, symbol k of section j; every place from c on is passed
pub record Walking (n t : ℕ) (shifts marks p : List ℕ) (c j k : ℕ) : Type 0 where
  pub good : GoodPlan n t shifts
  pub bytes : length marks ≡ (n * t + 7) / 8
  pub stands : Stands t c j k
  pub inside : c ≤ n * t
  pub joins : Joins (layout n t shifts) (since c (erasures (layout n t shifts) marks)) p

-- a step from place b to place c
pub record Stepped (n t : ℕ) (shifts marks p : List ℕ) (b c j k : ℕ) (closes : Bool) : Type 0 where
  pub walking : Walking n t shifts marks p c j k
  pub down : c < b
  pub told : Forest (layout n t shifts) (since b (erasures (layout n t shifts) marks)) → Told (layout n t shifts) (erasures (layout n t shifts) marks) c closes

-- steps from place b to place c, none of them to a place that closes a cycle if they stop at such a one
pub record Descending (n t : ℕ) (shifts marks p : List ℕ) (b c j k : ℕ) (stop : Bool) : Type 0 where
  pub walking : Walking n t shifts marks p c j k
  pub down : c ≤ b
  pub forest : stop ≡ true → Forest (layout n t shifts) (since b (erasures (layout n t shifts) marks))
      → Forest (layout n t shifts) (since c (erasures (layout n t shifts) marks))

-- the place that closes a cycle, where they stop, or the end
abbrev pub Next : ℕ → ℕ → List ℕ → List ℕ → List ℕ → ℕ → Bool → Option Spot → Type 0
Next n t shifts marks p b stop (Some s) = (stop ≡ true) × Stepped n t shifts marks p b s.place.0 s.section s.offset true
Next n t shifts marks p b stop None = Descending n t shifts marks p b 0 0 0 stop

-- what `descend` promises
pub record Descends (n t : ℕ) (shifts marks p : List ℕ) (b : ℕ) (stop : Bool) (r : Option Spot) : Type 0 where
  pub next : Next n t shifts marks p b stop r

-- no place below c is marked
pub record Bare (marks : List ℕ) (c : ℕ) : Type 0 where
  pub none : (d : ℕ) → d < c → mark marks d ≡ 0

-- what joining needs to know of the numbers
pub record Reach (t : ℕ) (shifts p : List ℕ) (j k : ℕ) : Type 0 where
  pub section : j < length shifts
  pub section_small : j < max_n
  pub shift : get_or shifts j 0 < t
  pub offset : k < t
  pub few : t ≤ max_t
  pub top_in : k < length p
  pub bottom_in : bottom_row t (get_or shifts j 0) k < length p

pub joinable : {n t : ℕ} {shifts p : List ℕ} {c j k : ℕ} → GoodPlan n t shifts → Joinable n t p c j k → Reach t shifts p j k
unfolding bottom_row
joinable {n} {t} {shifts} {p} {c} {j} {k} s m =
    let h : j < n = stands_inside m.stands n m.inside in
    let o : k < t = m.stands.within in
    record {
      section = omega (arith, s.long);
      section_small = omega (arith, s.n_max);
      shift = s.below j h;
      offset = o;
      few = s.t_max;
      top_in = omega (arith, m.long);
      bottom_in = omega (arith, m.long, mod-lt (k + t - get_or shifts j 0) s.t_min);
    }

pub unites_at : (shifts : List ℕ) {n t : ℕ} {p q : List ℕ} {c j k x y : ℕ} {b : Bool} → Joinable n t p c j k → x ≡ k → y ≡ bottom_row t (get_or shifts j 0) k
    → Unites p x y q b → UnitesAt (layout n t shifts) c p q b
unites_at shifts {n} {t} {p} {q} {c} {j} {k} {x} {y} {b} m d e u =
    subst (λ v. Unites p (top (layout n t shifts) c) v q b) (e ∙ sym (stands_bottom m.stands n shifts))
    (subst (λ v. Unites p v y q b) (d ∙ sym (stands_top m.stands n shifts)) u)

-- ---- the steps of the walk

module _ {n t : ℕ} {shifts : List ℕ} (s : GoodPlan n t shifts) (marks : List ℕ) where
  pub layout_erasure : {d : ℕ} → d ∈ erasures (layout n t shifts) marks → (d < n * t) × (mark marks d ≡ 1)
  unfolding layout
  layout_erasure {d} m = let o = (in_erasures (layout n t shifts) marks d).0 m in ((places_∈ (layout n t shifts) o.0).0, o.1)

  pub erasure_layout : {d : ℕ} → d < n * t → mark marks d ≡ 1 → d ∈ erasures (layout n t shifts) marks
  unfolding layout
  erasure_layout {d} h e = (in_erasures (layout n t shifts) marks d).1
      (∈_places (layout n t shifts) h (∈_up_to ((div-lt_iff_lt-mul {y = n} s.t_min).1 h)), e)

module _ {n t : ℕ} {shifts marks p : List ℕ} {c j k d j' k' : ℕ} (w : Walking n t shifts marks p c j k) (s : Stands t d j' k') where
  -- down to place d, with no mark between
  walking_skip : d ≤ c → ((e : ℕ) → d ≤ e → e < c → mark marks e ≡ 0)
      → Walking n t shifts marks p d j' k' × (since c (erasures (layout n t shifts) marks) ≡ since d (erasures (layout n t shifts) marks))
  walking_skip l h =
      let L = layout n t shifts in
      let same = since_skip d c (erasures L marks) l (λ e m f g. omega (arith, h e f g, (layout_erasure w.good marks m).1)) in (
        record {
          good = w.good;
          bytes = w.bytes;
          stands = s;
          inside = omega (arith, w.inside);
          joins = subst (λ F. Joins L F p) same w.joins;
        },
        same,
      )

  pub walking_joinable : d + 1 ≡ c → Joinable n t p d j' k'
  unfolding layout
  walking_joinable e = record {
    stands = s;
    inside = omega (arith, w.inside);
    long = w.joins.long;
    falls = w.joins.falls;
  }

  -- one place back, which is not marked, and then over a gap
  pub stepped_gap : {a m : ℕ} → a + 1 ≡ c → mark marks a ≡ 0 → d + m ≡ a → Gap marks a m → Stepped n t shifts marks p c d j' k' false
  stepped_gap {a} e z f g =
      let o = walking_skip (omega arith) (λ i l h. by_cases (ℕ_discrete i a) (λ q. ap (mark marks) q ∙ z) (λ q. g.none i (omega arith) (omega arith))) in
      record { walking = o.0; down = omega arith; told = subst (λ F. Forest (layout n t shifts) F) o.1 }

  -- one place back, which is marked
  pub stepped_join : {q : List ℕ} (b : Bool) → d + 1 ≡ c → mark marks d ≢ 0 → UnitesAt (layout n t shifts) d p q b → Stepped n t shifts marks q c d j' k' b
  stepped_join {q} b e m u =
      let L = layout n t shifts in
      let E = erasures L marks in
      let i : d ∈ E = erasure_layout w.good marks (omega (arith, w.inside)) (omega (arith, m, mark_bit marks d)) in
      let r = rising_erasures L marks in
      let o : Joins L (since (d + 1) E) p = subst (λ x. Joins L (since x E) p) (sym e) w.joins in
      record {
        walking = record {
          good = w.good;
          bytes = w.bytes;
          stands = s;
          inside = omega (arith, w.inside);
          joins = joins_since d r i o u.united;
        };
        down = omega arith;
        told = λ f. told_join d r i o b u (subst (λ x. Forest L (since x E)) (sym e) f);
      }

-- ---- the steps down

not_both : (a b : Bool) → a && b ≡ false → b ≡ true → a ≡ false
not_both true b e i = absurd (true≢false (sym i ∙ e))
not_both false b e i = refl

module _ {n t : ℕ} {shifts marks : List ℕ} where
  pub descending_start : {p : List ℕ} {c j k : ℕ} (stop : Bool) → Walking n t shifts marks p c j k → Descending n t shifts marks p c c j k stop
  descending_start stop w = record { walking = w; down = omega arith; forest = λ e f. f }

  module _ {p q : List ℕ} {b c j k : ℕ} {stop : Bool} (s : Spot) (closes : Bool) (o : Descending n t shifts marks p b c j k stop)
      (h : Stepped n t shifts marks q c s.place.0 s.section s.offset closes) where
    told_as : (x : Bool) → closes ≡ x → stop ≡ true → Forest (layout n t shifts) (since b (erasures (layout n t shifts) marks))
        → Told (layout n t shifts) (erasures (layout n t shifts) marks) s.place.0 x
    told_as x e i f = subst (λ y. Told (layout n t shifts) (erasures (layout n t shifts) marks) s.place.0 y) e (h.told (o.forest i f))

    -- it goes on
    pub descending_more : closes && stop ≡ false → Descending n t shifts marks q b s.place.0 s.section s.offset stop
    descending_more e = record {
      walking = h.walking;
      down = omega (arith, o.down, h.down);
      forest = λ i. told_as false (not_both closes stop e i) i;
    }

    -- it stops
    pub descends_at : closes && stop ≡ true → Descends n t shifts marks q b stop (Some s)
    descends_at e =
        let i = and_right closes stop e in
        record {
          next = (
            i,
            record { walking = h.walking; down = omega (arith, o.down, h.down); told = told_as true (and_left closes stop e) i },
          );
        }

  -- no place below is marked
  pub descends_none : {p : List ℕ} {b c j k low : ℕ} (stop : Bool) → Descending n t shifts marks p b c j k stop → Bare marks low → c ≤ low
      → Descends n t shifts marks p b stop None
  descends_none stop o z h =
      let st : Stands t 0 0 0 = record { whole = omega arith; within = o.walking.good.t_min } in
      let s = walking_skip o.walking st (omega arith) (λ e f g. z.none e (omega arith)) in
      record {
        next = record {
          walking = s.0;
          down = omega arith;
          forest = λ e f. subst (λ F. Forest (layout n t shifts) F) s.1 (o.forest e f);
        };
      }

pub bare : {marks : List ℕ} {r low : ℕ} → Clear marks 0 r → low ≡ 8 * r → Bare marks low
bare z e = record { none = λ d h. z.none d (omega arith) (omega arith) }

-- ---- the whole walk

-- the walk starts past the last place, with every row its own parent
pub walking_start : {n t : ℕ} {shifts : List ℕ} → GoodPlan n t shifts → (marks : List ℕ) {p q : List ℕ} → length marks ≡ (n * t + 7) / 8 → length p ≡ 2 * t
    → Own p q (length p) → Walking n t shifts marks q (n * t) n 0
unfolding layout
walking_start {n} {t} {shifts} s marks {p} {q} b l h =
    let L = layout n t shifts in
    let e = sym (since_none (n * t) (erasures L marks) (λ d m. (layout_erasure s marks m).0)) in
    record {
      good = s;
      bytes = b;
      stands = record { whole = omega arith; within = s.t_min };
      inside = omega arith;
      joins = subst (λ F. Joins L F q) e (joins_none L q (h.long ∙ l) (λ r k. h.each r (omega (arith, h.long))));
    }

-- the first place that closes a cycle
pub first_at : {n t : ℕ} {shifts marks q : List ℕ} {c : ℕ} {r : Option Spot} {s : Spot} → r ≡ Some s → Descends n t shifts marks q c true r
    → Stepped n t shifts marks q c s.place.0 s.section s.offset true
first_at {n} {t} {shifts} {marks} {q} {c} e h = (subst (λ x. Next n t shifts marks q c true x) e h.next).1

module _ {n t : ℕ} {shifts marks p : List ℕ} {j k : ℕ} (w : Walking n t shifts marks p (n * t) j k) where
  -- nothing is passed yet
  start_forest : Forest (layout n t shifts) (since (n * t) (erasures (layout n t shifts) marks))
  start_forest = subst (λ F. Forest (layout n t shifts) F)
      (sym (since_none (n * t) (erasures (layout n t shifts) marks) (λ d m. (layout_erasure w.good marks m).0))) forest_none

  -- the rest is passed after the first place that closes a cycle
  pub passed_at : {q q' : List ℕ} (s : Spot) → Stepped n t shifts marks q (n * t) s.place.0 s.section s.offset true → (r : Option Spot)
      → Descends n t shifts marks q' s.place.0 false r → Passed (layout n t shifts) (erasures (layout n t shifts) marks) q' (Some s)
  unfolding layout
  passed_at s h (Some d) o = absurd (true≢false (sym o.next.0))
  passed_at {q' = q'} s h None o = record {
    joins = subst (λ F. Joins (layout n t shifts) F q') (since_all (erasures (layout n t shifts) marks)) o.next.walking.joins;
    closed = (h.told start_forest, h.walking.stands);
  }

  -- there is none
  pub passed_none : {q : List ℕ} {r : Option Spot} → r ≡ None → Descends n t shifts marks q (n * t) true r
      → Passed (layout n t shifts) (erasures (layout n t shifts) marks) q None
  passed_none {q} e h =
      let L = layout n t shifts in
      let all = since_all (erasures L marks) in
      let o = subst (λ x. Next n t shifts marks q (n * t) true x) e h.next in
      record { joins = subst (λ F. Joins L F q) all o.walking.joins; closed = subst (λ F. Forest L F) all (o.forest refl start_forest) }
