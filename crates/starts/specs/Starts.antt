-- The rows to start from, found by the marks. A row with exactly one erasure left is a row of one marked place only, so looking at the two rows of each marked
-- place finds every such row, and finds it once. Top rows stand before bottom rows, so that a turn of peeling does not wait for the turn just before it.
-- Main results: starting_skips, starting_more (a marked place more is looked at), starting_end (all are).
use Rattle.std.specs.Prelude.{◌≡◌, refl, ◌⊎◌, List, ◌++◌, ℕ, ◌+◌, ◌-◌, ◌*◌, ◌≤◌, ◌<◌, length, get_or, set, take, Option, IfSome}
use Rattle.std.proofs.Common.{sym, ◌∙◌, ap, inl, inr, arith, get_or-take, get_or-append-add, get_or-set_same, get_or-set_other, length-take-le}
use Rattle.std.proofs.Math.Path.{subst}
use Rattle.std.proofs.Math.Logic.{⊎_elim, by_cases}
use Rattle.std.proofs.Math.Decide.{ℕ_discrete, dec_lt}
use Rattle.std.proofs.Math.ListN.{get_or-append}
use Rattle.math.specs.Members.{◌∈◌}
use Rattle.plan.specs.Layout.{Layout, layout, top, bottom, bottom_row}
use Rattle.plan.specs.GoodPlan.{GoodPlan, plan_valid}
use Rattle.code.specs.Places.{Meets}
use Rattle.code.specs.Marks.{mark, erasures}
use Rattle.code.proofs.Laws.Basics.{top≢bottom, meets_row}
use Rattle.code.proofs.Laws.MarksLaws.{in_erasures}
use Rattle.tables.specs.Picture.{counts, Counted}
use Rattle.tables.specs.Spots.{Reached}
use Rattle.tables.proofs.Spots.{reached_stands, stands_top, stands_bottom}
use Rattle.tables.specs.Sizes.{∈_good, good_∈}
use Rattle.tables.proofs.Bounds.{tally_counts}
use Rattle.tables.specs.Scan.{Lent}
use Rattle.tables.proofs.Scan.{marked_inside}
use Rattle.tables.specs.WordWalk.{Skips}
use Rattle.bits.specs.Words.{Clear}
use Rattle.queue.specs.Queue.{Below, Queued, Waits, Enters, queued_none, full, room, looks, widened, entered}
use Rattle.tables.specs.Singles.{single}

-- row r is the top row of a place of E below c, or the bottom row
abbrev pub TopOf : Layout → List ℕ → ℕ → ℕ → Type 0
TopOf L E c r = (e : ℕ) × (e ∈ E) × (e < c) × (r ≡ top L e)

abbrev pub BottomOf : Layout → List ℕ → ℕ → ℕ → Type 0
BottomOf L E c r = (e : ℕ) × (e ∈ E) × (e < c) × (r ≡ bottom L e)

-- what is lent to start by
pub record Startable (n t : ℕ) (shifts marks tally queue list : List ℕ) : Type 0 where
  pub lent : Lent n t shifts marks
  pub counted : Counted (layout n t shifts) (erasures (layout n t shifts) marks) tally
  pub queue_long : length queue ≡ 2 * t
  pub list_long : length list ≡ 2 * t

-- the rows of the marked places below c are looked at: of those with exactly one left the top rows are in the queue, the bottom rows in the list
pub record Starting (n t : ℕ) (shifts marks tally queue list : List ℕ) (c tail count : ℕ) : Type 0 where
  pub startable : Startable n t shifts marks tally queue list
  pub tops : Queued tally queue (TopOf (layout n t shifts) (erasures (layout n t shifts) marks) c) 0 tail
  pub bottoms : Queued tally list (BottomOf (layout n t shifts) (erasures (layout n t shifts) marks) c) 0 count

pub startable_long : {n t : ℕ} {shifts marks tally queue list : List ℕ} → Startable n t shifts marks tally queue list → length tally ≡ 2 * t
unfolding layout
startable_long s = s.counted.long

pub starting_none : {n t : ℕ} {shifts marks tally queue list : List ℕ} → Startable n t shifts marks tally queue list
    → Starting n t shifts marks tally queue list 0 0 0
starting_none s = record { startable = s; tops = queued_none (λ r k. omega (arith, k.2)); bottoms = queued_none (λ r k. omega (arith, k.2)) }

module _ {n t : ℕ} {shifts : List ℕ} (s : GoodPlan n t shifts) {E tally : List ℕ} (C : Counted (layout n t shifts) E tally) where
  -- two erasures on a row with exactly one are one
  alone : {r : ℕ} (d e : ℕ) → counts tally r ≡ 1 → d ∈ E → Meets (layout n t shifts) d r → e ∈ E → Meets (layout n t shifts) e r → d ≡ e
  alone d e one md hd me he =
      let row = meets_row (layout n t shifts) (plan_valid s) d hd in
      let o = single (layout n t shifts) C row (sym (tally_counts s C row) ∙ one) in
      o.1.sole d md hd ∙ sym (o.1.sole e me he)

  -- such a row has one
  some : {r : ℕ} → r < 2 * t → counts tally r ≡ 1 → (e : ℕ) × (e ∈ E) × Meets (layout n t shifts) e r
  unfolding layout
  some h one =
      let o = single (layout n t shifts) C h (sym (tally_counts s C h) ∙ one) in
      (o.0, o.1.member, o.1.meet)

pub starting_long : {n t : ℕ} {shifts marks tally queue list : List ℕ} {c tail count r : ℕ} → Starting n t shifts marks tally queue list c tail count
    → Meets (layout n t shifts) c r → r < length tally
starting_long {n} {t} {shifts} {c = c} S m =
    omega (arith, meets_row (layout n t shifts) (plan_valid S.startable.lent.good) c m, S.startable.counted.long)

module _ {n t : ℕ} {shifts marks tally queue list : List ℕ} {tail count : ℕ} where
  pub starting_skips : Skips marks 0 (λ c. Starting n t shifts marks tally queue list c tail count)
  starting_skips c c' S h none =
      let L = layout n t shifts in
      let E = erasures L marks in
      let old : (e : ℕ) → e ∈ E → e < c' → e < c
      = λ e m l. by_cases (dec_lt e c) (λ k. k) (λ k. absurd (none e (omega arith) l ((in_erasures L marks e).0 m).1 (omega arith))) in
      record {
        startable = S.startable;
        tops = widened S.tops (TopOf L E c') (λ r k. (k.0, k.1, omega (arith, k.2), k.3)) (λ r k _. (k.0, k.1, old k.0 k.1 k.2, k.3));
        bottoms = widened S.bottoms (BottomOf L E c') (λ r k. (k.0, k.1, omega (arith, k.2), k.3)) (λ r k _. (k.0, k.1, old k.0 k.1 k.2, k.3));
      }

pub starting_at : {n t : ℕ} {shifts marks tally queue list : List ℕ} {c d tail count : ℕ} → c ≡ d → Starting n t shifts marks tally queue list c tail count
    → Starting n t shifts marks tally queue list d tail count
starting_at {n} {t} {shifts} {marks} {tally} {queue} {list} {tail = tail} {count = count} e S = subst (λ c. Starting n t shifts marks tally queue list c tail count) e S

-- words of zeros are passed
pub starting_clear : {n t : ℕ} {shifts marks tally queue list : List ℕ} {i r tail count : ℕ} → Clear marks i r
    → Starting n t shifts marks tally queue list (8 * i) tail count → Starting n t shifts marks tally queue list (8 * r) tail count
starting_clear {i = i} {r = r} C S = starting_skips (8 * i) (8 * r) S (omega (arith, C.order)) (λ d x y m l. omega (arith, sym (C.none d x y) ∙ m))

-- ---- a marked place, c, is looked at

-- the two rows of a place in its section
pub spot_rows : {n t : ℕ} {shifts : List ℕ} {c j begin end p : ℕ} → Reached n t shifts c j begin end p → c < end
    → (c - begin ≡ top (layout n t shifts) c) × (bottom_row t p (c - begin) ≡ bottom (layout n t shifts) c)
spot_rows {n} {t} {shifts} {c} {begin = begin} R h =
    let st = reached_stands R h in
    (sym (stands_top st n shifts), ap (λ p. bottom_row t p (c - begin)) R.shift ∙ sym (stands_bottom st n shifts))

-- The same of one row of each place: `row` gives it, and `meet` says so.
module _ {n t : ℕ} {shifts : List ℕ} (s : GoodPlan n t shifts) {E tally : List ℕ} (C : Counted (layout n t shifts) E tally)
    (row : ℕ → ℕ) (meet : (e : ℕ) → Meets (layout n t shifts) e (row e)) {queue : List ℕ} (long : length queue ≡ 2 * t) {c tail : ℕ}
    (q : Queued tally queue (λ r. (e : ℕ) × (e ∈ E) × (e < c) × (r ≡ row e)) 0 tail) (m : c ∈ E) where
  abbrev Looked : ℕ → ℕ → Type 0
  Looked c r = (e : ℕ) × (e ∈ E) × (e < c) × (r ≡ row e)

  -- if it was looked at before, it has more than one
  waits : Waits tally queue (Looked (c + 1)) 0 tail (row c)
  waits = looks q (Looked (c + 1)) (λ r k. (k.0, k.1, omega (arith, k.2), k.3)) (row c) (c, m, omega arith, refl)
      (λ r k ne. (k.0, k.1, by_cases (ℕ_discrete k.0 c) (λ e. absurd (ne (k.3 ∙ ap row e))) (λ e. omega (arith, k.2, e)), k.3))
      (λ one k. omega (arith, k.2, alone s C k.0 c one k.1 (subst (Meets (layout n t shifts) k.0) (sym k.3) (meet k.0)) m (meet c)))

  row_room : counts tally (row c) ≡ 1 → tail < length queue
  unfolding layout
  row_room one = omega (arith, room (λ r k. subst (λ r. r < 2 * t) (sym k.3) (meets_row (layout n t shifts) (plan_valid s) k.0 (meet k.0))) waits one, long)

  module _ {h rest : ℕ} (eh : h ≡ row c) (er : rest ≡ counts tally h) where
    pub place_room : rest ≡ 1 → tail < length queue
    place_room one = row_room (ap (counts tally) (sym eh) ∙ sym er ∙ one)

    pub place_entered : {queue' : List ℕ} {tail' : ℕ} → Enters queue tail h rest queue' tail' → Queued tally queue' (Looked (c + 1)) 0 tail'
    place_entered {queue'} {tail'} enters = entered waits row_room (er ∙ ap (counts tally) eh) (subst (λ r. Enters queue tail r rest queue' tail') eh enters)

module _ {n t : ℕ} {shifts marks tally queue list : List ℕ} {c tail count : ℕ} (S : Starting n t shifts marks tally queue list c tail count) (marked : mark marks c ≡ 1) where
  erased : c ∈ erasures (layout n t shifts) marks
  erased = (in_erasures (layout n t shifts) marks c).1 (∈_good S.startable.lent.good (marked_inside S.startable.lent c marked), marked)

  module _ {h rest : ℕ} (eh : h ≡ top (layout n t shifts) c) (er : rest ≡ counts tally h) where
    pub top_room : rest ≡ 1 → tail < length queue
    top_room = place_room S.startable.lent.good S.startable.counted (top (layout n t shifts)) (λ e. inl refl) S.startable.queue_long S.tops erased eh er

  module _ {b rest : ℕ} (eb : b ≡ bottom (layout n t shifts) c) (er : rest ≡ counts tally b) where
    pub bottom_room : rest ≡ 1 → count < length list
    bottom_room = place_room S.startable.lent.good S.startable.counted (bottom (layout n t shifts)) (λ e. inr refl) S.startable.list_long S.bottoms erased eb er

  pub starting_more : {h b rest rest' : ℕ} {queue' list' : List ℕ} {tail' count' : ℕ} → h ≡ top (layout n t shifts) c → rest ≡ counts tally h
      → Enters queue tail h rest queue' tail' → length queue' ≡ length queue → b ≡ bottom (layout n t shifts) c → rest' ≡ counts tally b
      → Enters list count b rest' list' count' → length list' ≡ length list → Starting n t shifts marks tally queue' list' (c + 1) tail' count'
  starting_more eh er enters long eb er' enters' long' =
      let s = S.startable in
      record {
        startable = record { lent = s.lent; counted = s.counted; queue_long = long ∙ s.queue_long; list_long = long' ∙ s.list_long };
        tops = place_entered s.lent.good s.counted (top (layout n t shifts)) (λ e. inl refl) s.queue_long S.tops erased eh er enters;
        bottoms = place_entered s.lent.good s.counted (bottom (layout n t shifts)) (λ e. inr refl) s.list_long S.bottoms erased eb er' enters';
      }

-- ---- all of them are

-- the list's first `count` rows stand in the queue from the tail on
pub record Appended (queue list : List ℕ) (tail count : ℕ) (queue' : List ℕ) : Type 0 where
  pub early : (i : ℕ) → i < tail → get_or queue' i 0 ≡ get_or queue i 0
  pub late : (i : ℕ) → i < count → get_or queue' (tail + i) 0 ≡ get_or list i 0

pub appended_none : (queue list : List ℕ) (tail : ℕ) → Appended queue list tail 0 queue
appended_none queue list tail = record { early = λ i h. refl; late = λ i h. absurd (omega arith) }

pub appended_more : {queue list queue' queue'' : List ℕ} {tail count row : ℕ} → Appended queue list tail count queue' → tail + count < length queue'
    → row ≡ get_or list count 0 → queue'' ≡ set queue' (tail + count) row → Appended queue list tail (count + 1) queue''
appended_more {list = list} {queue' = queue'} {tail = tail} {count = count} {row = row} A h e f = rw f (record {
  early = λ i k. get_or-set_other queue' (tail + count) i row 0 (λ z. omega arith) ∙ A.early i k;
  late = λ i k. by_cases (ℕ_discrete i count)
      (λ z. rw z (get_or-set_same queue' (tail + count) row 0 h ∙ e))
      (λ z. get_or-set_other queue' (tail + count) (tail + i) row 0 (λ y. omega arith) ∙ A.late i (omega arith));
})

append_some : (queue list : List ℕ) (tail count : ℕ) → tail ≤ length queue → Appended queue list tail count (take tail queue ++ list)
append_some queue list tail count h =
    let l = length-take-le tail queue h in
    record {
      early = λ i k. get_or-append (take tail queue) list 0 i (omega arith) ∙ get_or-take tail queue i 0 k;
      late = λ i k. ap (λ y. get_or (take tail queue ++ list) (y + i) 0) (sym l) ∙ get_or-append-add (take tail queue) list i 0;
    }

-- two queues one after the other
joined : {tally queue list queue' : List ℕ} {Q R : ℕ → Type 0} {tail count : ℕ} → Queued tally queue Q 0 tail → Queued tally list R 0 count
    → ((r : ℕ) → Q r → ¬ (R r)) → Appended queue list tail count queue' → Queued tally queue' (λ r. Q r ⊎ R r) 0 (tail + count)
joined {tally} {queue} {list} {queue'} {Q} {R} {tail} {count} q l none A = record {
  order = omega arith;
  entries = record {
    looked = each (λ r. Q r ⊎ R r) (λ i h. inl (q.entries.looked i h)) (λ i h. inr (l.entries.looked i h));
    apart = apart;
    low = each (λ r. counts tally r ≤ 1) q.entries.low l.entries.low;
  };
  waiting = λ r k e. ⊎_elim
      (λ m. let w = q.waiting r m e in (w.0, omega arith, omega (arith, w.2), A.early w.0 w.2 ∙ w.3))
      (λ m. let w = l.waiting r m e in (tail + w.0, omega arith, omega (arith, w.2), A.late w.0 w.2 ∙ w.3)) k;
}
  where
    late_at : (i : ℕ) → tail ≤ i → i < tail + count → get_or queue' i 0 ≡ get_or list (i - tail) 0
    late_at i h k = let e : tail + (i - tail) ≡ i = omega arith in ap (λ y. get_or queue' y 0) (sym e) ∙ A.late (i - tail) (omega arith)

    each : (P : ℕ → Type 0) → ((i : ℕ) → i < tail → P (get_or queue i 0)) → ((i : ℕ) → i < count → P (get_or list i 0)) → (i : ℕ) → i < tail + count → P (get_or queue' i 0)
    each P f g i h =
        by_cases (dec_lt i tail) (λ k. rw (A.early i k) (f i k)) (λ k. rw (late_at i (omega arith) h) (g (i - tail) (omega arith)))

    mixed : (i j : ℕ) → i < tail → tail ≤ j → j < tail + count → get_or queue' i 0 ≡ get_or queue' j 0 → ⊥
    mixed i j h k g e =
        none (get_or queue i 0) (q.entries.looked i h)
        (subst R (sym (sym (A.early i h) ∙ e ∙ late_at j k g)) (l.entries.looked (j - tail) (omega arith)))

    apart : (i j : ℕ) → i < tail + count → j < tail + count → get_or queue' i 0 ≡ get_or queue' j 0 → i ≡ j
    apart i j h k e =
        by_cases (dec_lt i tail)
        (λ a. by_cases (dec_lt j tail)
        (λ b. q.entries.apart i j a b (sym (A.early i a) ∙ e ∙ A.early j b))
        (λ b. absurd (mixed i j a (omega arith) k e)))
        (λ a. by_cases (dec_lt j tail)
        (λ b. absurd (mixed j i b (omega arith) h (sym e)))
        (λ b.
        let same = l.entries.apart (i - tail) (j - tail) (omega arith) (omega arith) (sym (late_at i (omega arith) h) ∙ e ∙ late_at j (omega arith) k) in
        omega (arith, same)))

module _ {n t : ℕ} {shifts marks tally queue list : List ℕ} {c tail count : ℕ} (S : Starting n t shifts marks tally queue list c tail count) where
  both : {queue' : List ℕ} → Appended queue list tail count queue'
      → Queued tally queue' (λ r. TopOf (layout n t shifts) (erasures (layout n t shifts) marks) c r ⊎ BottomOf (layout n t shifts) (erasures (layout n t shifts) marks) c r) 0 (tail + count)
  both A = joined S.tops S.bottoms
      (λ r k m. top≢bottom (layout n t shifts) (plan_valid S.startable.lent.good) k.0 m.0 (sym k.3 ∙ m.3)) A

  its_row : (r : ℕ) → TopOf (layout n t shifts) (erasures (layout n t shifts) marks) c r ⊎ BottomOf (layout n t shifts) (erasures (layout n t shifts) marks) c r → r < 2 * t
  unfolding layout
  its_row r k =
      ⊎_elim (λ m. meets_row (layout n t shifts) (plan_valid S.startable.lent.good) m.0 (inl m.3))
      (λ m. meets_row (layout n t shifts) (plan_valid S.startable.lent.good) m.0 (inr m.3)) k

  -- there is room for the list behind the queue
  pub append_room : (tail + count ≤ length queue) × (count ≤ length list)
  append_room =
      let a : tail ≤ length queue = omega (arith, S.startable.queue_long, full (λ r k. its_row r (inl k)) S.tops) in (
        omega (arith, S.startable.queue_long, full its_row (both (append_some queue list tail count a))),
        omega (arith, S.startable.list_long, full (λ r k. its_row r (inr k)) S.bottoms),
      )

  pub starting_end : {queue' : List ℕ} → n * t ≤ c → Appended queue list tail count queue' → Queued tally queue' (Below (2 * t)) 0 (tail + count)
  starting_end h A =
      let L = layout n t shifts in
      let g = S.startable.lent.good in
      widened (both A) (Below (2 * t)) its_row
      (λ r l one.
      let k = some g S.startable.counted l one in
      let e : k.0 < c = omega (arith, h, good_∈ g ((in_erasures L marks k.0).0 k.1).0) in
      ⊎_elim (λ m. inl (k.0, k.1, e, m)) (λ m. inr (k.0, k.1, e, m)) k.2)

-- the rows, if the marks were gone by
abbrev pub Seeded : ℕ → List ℕ → List ℕ → Option ℕ → Type 0
Seeded t tally queue r = IfSome r (λ tail. Queued tally queue (Below (2 * t)) 0 tail)
