-- The walk over the marked places from high to low: its table joins the places passed, and its list has the bits of those that close a cycle of places above them.
-- Main results: collecting_gap, collecting_bit, collecting_joins, collecting_closes (the steps), collecting_start, collecting_end.
use Rattle.std.specs.Prelude.{◌≡◌, ◌≢◌, Bool, true, false, List, [], ◌∷◌, ℕ, ◌+◌, ◌*◌, ◌/◌, ◌≤◌, ◌<◌, length, replicate}
use Rattle.std.proofs.Common.{sym, ◌∙◌, ap, subst, arith}
use Rattle.std.proofs.lemmas.List.{length-replicate}
use Rattle.math.specs.Members.{◌∈◌}
use Rattle.plan.specs.Layout.{layout, top, bottom}
use Rattle.plan.specs.GoodPlan.{GoodPlan, plan_valid}
use Rattle.code.specs.Marks.{mark, erasures, BitsOf}
use Rattle.code.specs.Components.{Connected}
use Rattle.code.specs.FetchList.{FetchBits}
use Rattle.code.specs.Laws.Forest.{Erased}
use Rattle.code.proofs.Laws.MarksLaws.{erasures_erased, mark_bit, bits_none, bits_more}
use Rattle.code.specs.Laws.Closings.{closings}
use Rattle.code.proofs.Laws.Closings.{closings_exact, rising_closings}
use Rattle.code.proofs.Laws.ClosingsFetch.{closings_fetch}
use Rattle.bits.specs.Bits.{Marked}
use Rattle.bits.specs.MarkedLaws.{marked_puts}
use Rattle.tables.specs.Spots.{Stands}
use Rattle.components.specs.Parents.{Own}
use Rattle.components.specs.Gaps.{Gap}
use Rattle.components.specs.Walks.{Joins, since, since_all, since_none, since_skip, since_above, since_more, joins_none, joins_since, joint_connected, apart_connected}
use Rattle.components.specs.Walking.{Joinable, UnitesAt, layout_erasure, erasure_layout}

-- the erasures, and those of them that close a cycle
abbrev pub marked : ℕ → ℕ → List ℕ → List ℕ → List ℕ
marked n t shifts marks = erasures (layout n t shifts) marks

abbrev pub closes : ℕ → ℕ → List ℕ → List ℕ → List ℕ
closes n t shifts marks = closings (layout n t shifts) (marked n t shifts marks)

-- the walk stands at place c, symbol k of section j; every place from c on is passed
pub record Collecting (n t : ℕ) (shifts marks p list : List ℕ) (c j k count : ℕ) : Type 0 where
  pub good : GoodPlan n t shifts
  pub bytes : length marks ≡ (n * t + 7) / 8
  pub stands : Stands t c j k
  pub few : count + c ≤ n * t
  pub joins : Joins (layout n t shifts) (since c (marked n t shifts marks)) p
  pub long : length list ≡ length marks
  pub bits : BitsOf (since c (closes n t shifts marks)) list
  pub number : count ≡ length (since c (closes n t shifts marks))

erased : (n t : ℕ) (shifts marks : List ℕ) → Erased (layout n t shifts) (marked n t shifts marks)
erased n t shifts marks = erasures_erased (layout n t shifts) marks

module _ {n t : ℕ} {shifts marks p list : List ℕ} {c j k count d j' k' : ℕ} (w : Collecting n t shifts marks p list c j k count) (s : Stands t d j' k') where
  -- no place from d to c is marked
  collecting_skip : d ≤ c → ((e : ℕ) → d ≤ e → e < c → mark marks e ≡ 0) → Collecting n t shifts marks p list d j' k' count
  collecting_skip l h =
      let L = layout n t shifts in
      let none : (e : ℕ) → e ∈ marked n t shifts marks → d ≤ e → e < c → ⊥ = λ e m f g. omega (arith, h e f g, (layout_erasure w.good marks m).1) in
      let a = since_skip d c (marked n t shifts marks) l none in
      let b = since_skip d c (closes n t shifts marks) l (λ e m. none e ((closings_exact L (erased n t shifts marks) e).0 m).0) in
      record {
        good = w.good;
        bytes = w.bytes;
        stands = s;
        few = omega (arith, w.few);
        joins = subst (λ F. Joins L F p) a w.joins;
        long = w.long;
        bits = subst (λ F. BitsOf F list) b w.bits;
        number = w.number ∙ ap length b;
      }

  -- back over a gap
  pub collecting_gap : {m : ℕ} → d + m ≡ c → Gap marks c m → Collecting n t shifts marks p list d j' k' count
  collecting_gap e g = collecting_skip (omega arith) (λ i f l. g.none i (omega arith) l)

  -- one place back, which is not marked
  pub collecting_bit : d + 1 ≡ c → mark marks d ≡ 0 → Collecting n t shifts marks p list d j' k' count
  collecting_bit e z = collecting_skip (omega arith) (λ i f g. let q : i ≡ d = omega arith in ap (mark marks) q ∙ z)

  pub collecting_joinable : d + 1 ≡ c → Joinable n t p d j' k'
  unfolding layout
  collecting_joinable e = record {
    stands = s;
    inside = omega (arith, w.few);
    long = w.joins.long;
    falls = w.joins.falls;
  }

  -- one place back, which is marked
  module _ (e : d + 1 ≡ c) (m : mark marks d ≢ 0) where
    at_next : Collecting n t shifts marks p list (d + 1) j k count
    at_next = subst (λ x. Collecting n t shifts marks p list x j k count) (sym e) w

    erasure : d ∈ marked n t shifts marks
    erasure = erasure_layout w.good marks (omega (arith, w.few)) (omega (arith, m, mark_bit marks d))

    joined : {q : List ℕ} (b : Bool) → UnitesAt (layout n t shifts) d p q b → Joins (layout n t shifts) (since d (marked n t shifts marks)) q
    joined b u = joins_since d (erased n t shifts marks).rising erasure at_next.joins u.united

    -- its rows were not joined: it closes no cycle
    pub collecting_joins : {q : List ℕ} (b : Bool) → b ≡ false → UnitesAt (layout n t shifts) d p q b → Collecting n t shifts marks q list d j' k' count
    collecting_joins {q} b f h =
        let L = layout n t shifts in
        let u : UnitesAt L d p q false = subst (λ x. UnitesAt L d p q x) f h in
        let apart : ¬ (d ∈ closes n t shifts marks) = λ i.
        apart_connected at_next.joins u.joint
        (subst (λ F. Connected L F (top L d) (bottom L d)) (sym (since_above d (marked n t shifts marks))) ((closings_exact L (erased n t shifts marks) d).0 i).1) in
        let same = since_skip d (d + 1) (closes n t shifts marks) (omega arith)
        (λ x i f g. let q : x ≡ d = omega arith in apart (subst (λ y. y ∈ closes n t shifts marks) q i)) in
        record {
          good = w.good;
          bytes = w.bytes;
          stands = s;
          few = omega (arith, w.few);
          joins = joined false u;
          long = w.long;
          bits = subst (λ F. BitsOf F list) same at_next.bits;
          number = at_next.number ∙ ap length same;
        }

    -- its rows were joined by the places above it
    pub collecting_closes : {q list' : List ℕ} (b : Bool) → b ≡ true → UnitesAt (layout n t shifts) d p q b → Marked list d 1 1 list' →
        Collecting n t shifts marks q list' d j' k' (count + 1)
    collecting_closes {q} {list'} b f h put =
        let L = layout n t shifts in
        let u : UnitesAt L d p q true = subst (λ x. UnitesAt L d p q x) f h in
        let i : d ∈ closes n t shifts marks = (closings_exact L (erased n t shifts marks) d).1
        (erasure, subst (λ F. Connected L F (top L d) (bottom L d)) (since_above d (marked n t shifts marks)) (joint_connected at_next.joins u.joint)) in
        let more = since_more (rising_closings L (erased n t shifts marks)) i in
        record {
          good = w.good;
          bytes = w.bytes;
          stands = s;
          few = omega (arith, w.few);
          joins = joined true u;
          long = put.long ∙ w.long;
          bits = subst (λ F. BitsOf F list') (sym more) (bits_more at_next.bits put.long put.bytes (marked_puts put));
          number = let f : length (since d (closes n t shifts marks)) ≡ length (d ∷ since (d + 1) (closes n t shifts marks)) = ap length more in omega (arith, at_next.number);
        }

-- the walk starts past the last place, with every row its own parent and no bit set
pub collecting_start : {n t : ℕ} {shifts : List ℕ} → GoodPlan n t shifts → (marks list : List ℕ) {p q list' : List ℕ} → length marks ≡ (n * t + 7) / 8 → length p ≡ 2 * t →
    Own p q (length p) → length list ≡ length marks → list' ≡ replicate (length list) 0 → Collecting n t shifts marks q list' (n * t) n 0 0
unfolding layout
collecting_start {n} {t} {shifts} g marks list {p} {q} {list'} e l own same z =
    let L = layout n t shifts in
    let inside : (d : ℕ) → d ∈ marked n t shifts marks → d < n * t = λ d m. (layout_erasure g marks m).0 in
    let a = sym (since_none (n * t) (marked n t shifts marks) inside) in
    let b = sym (since_none (n * t) (closes n t shifts marks) (λ d m. inside d ((closings_exact L (erased n t shifts marks) d).0 m).0)) in
    record {
      good = g;
      bytes = e;
      stands = record { whole = omega arith; within = g.t_min };
      few = omega arith;
      joins = subst (λ F. Joins L F q) a (joins_none L q (own.long ∙ l) (λ r k. own.each r (omega (arith, own.long))));
      long = ap length z ∙ length-replicate (length list) 0 ∙ same;
      bits = subst (λ F. BitsOf F list') b (subst (λ y. BitsOf [] y) (sym z) (bits_none (length list)));
      number = ap length b;
    }

-- the walk has passed every place
pub collecting_end : {n t : ℕ} {shifts marks p list : List ℕ} {c j k count : ℕ} → Collecting n t shifts marks p list c j k count → c ≤ 0 →
    FetchBits (layout n t shifts) (marked n t shifts marks) (length marks) list count
collecting_end {n} {t} {shifts} {marks} {list} {c} w h =
    let z : c ≡ 0 = omega arith in
    let e = ap (λ x. since x (closes n t shifts marks)) z ∙ since_all (closes n t shifts marks) in
    record {
      list = closes n t shifts marks;
      fetch = closings_fetch (layout n t shifts) (plan_valid w.good) (erased n t shifts marks);
      long = w.long;
      bits = subst (λ F. BitsOf F list) e w.bits;
      number = w.number ∙ ap length e;
    }
