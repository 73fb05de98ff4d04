-- The queue of rows with one erasure left. Of the rows looked at, Q, none entered twice, and none that entered has more than one erasure left;
-- every one with exactly one left stands at or after the head (Queued), or all but one row s that may enter next (Waits).
-- Main results: entered (a row enters or not), enters_same and enters_longer (what stood there stays), room (there is room for it), looks (a row more is looked at), widened (rows that need not be), sweep_more and
-- sweep_none (the scan of all rows), passed and taken (the head moves on).
use Rattle.std.specs.Prelude.{◌≡◌, refl, ◌≢◌, true, List, map, ℕ, ◌+◌, ◌-◌, ◌*◌, ◌/◌, ◌≤◌, ◌<◌, eqb, length, set, take, drop}
use Rattle.std.proofs.Common.{sym, ◌∙◌, subst, length-set, eq-eqb, ne_eqb, get_or-set_same, get_or-set_other}
use Rattle.std.proofs.Math.Path.{ap}
use Rattle.std.proofs.Math.Logic.{by_cases}
use Rattle.std.proofs.Math.Decide.{ℕ_discrete, dec_lt}
use native.Mathlib.Omega.{arith}
use Rattle.std.proofs.Math.ListN.{get_or}
use mir.Val.{bool_byte}
use Rattle.std.proofs.Math.Seq.{get_or-take, get_or-drop}
use Rattle.slices.specs.Zeros.{all_zero}
use Rattle.bounds.specs.Bounds.{max_t}
use Rattle.math.specs.Members.{up_to, without}
use Rattle.math.specs.MembersLaws.{∈_up_to, length_up_to, ∈_without, length_without_lt}
use Rattle.math.specs.Pigeonhole.{injection_length}
use Rattle.tables.specs.Picture.{tally_unit, counts}
use Rattle.tables.specs.Singles.{Lowers}
use Rattle.queue.specs.Ones.{one, no_ones_at}

-- row r stands in the queue between the head and the tail
abbrev pub Standing : List ℕ → ℕ → ℕ → ℕ → Type 0
Standing queue head tail r = (i : ℕ) × (head ≤ i) × (i < tail) × (get_or queue i 0 ≡ r)

-- the rows below a number
abbrev pub Below : ℕ → ℕ → Type 0
Below rows r = r < rows

pub record Entries (tally queue : List ℕ) (Q : ℕ → Type 0) (tail : ℕ) : Type 0 where
  pub looked : (i : ℕ) → i < tail → Q (get_or queue i 0)
  pub apart : (i j : ℕ) → i < tail → j < tail → get_or queue i 0 ≡ get_or queue j 0 → i ≡ j
  pub low : (i : ℕ) → i < tail → counts tally (get_or queue i 0) ≤ 1

pub record Queued (tally queue : List ℕ) (Q : ℕ → Type 0) (head tail : ℕ) : Type 0 where
  pub order : head ≤ tail
  pub entries : Entries tally queue Q tail
  pub waiting : (r : ℕ) → Q r → counts tally r ≡ 1 → Standing queue head tail r

pub record Waits (tally queue : List ℕ) (Q : ℕ → Type 0) (head tail s : ℕ) : Type 0 where
  pub order : head ≤ tail
  pub entries : Entries tally queue Q tail
  pub waiting : (r : ℕ) → Q r → r ≢ s → counts tally r ≡ 1 → Standing queue head tail r
  pub inside : Q s
  pub fresh : (i : ℕ) → i < tail → get_or queue i 0 ≡ s → counts tally s ≢ 1

-- row s, which has `rest` tally, enters at the tail if that is exactly one; what stands past the tail is free
pub record Enters (queue : List ℕ) (tail s rest : ℕ) (queue' : List ℕ) (tail' : ℕ) : Type 0 where
  pub enters : rest ≡ 1 → (queue' ≡ set queue tail s) × (tail' ≡ tail + 1)
  pub stays : rest ≢ 1 → ((i : ℕ) → i < tail → get_or queue' i 0 ≡ get_or queue i 0) × (tail' ≡ tail)

-- what stood in the queue stays, and the tail does not fall back
module _ {queue : List ℕ} {tail s rest : ℕ} {queue' : List ℕ} {tail' : ℕ} (e : Enters queue tail s rest queue' tail') where
  pub enters_same : (i : ℕ) → i < tail → get_or queue' i 0 ≡ get_or queue i 0
  enters_same i h =
      by_cases (ℕ_discrete rest 1)
      (λ one. rw (e.enters one).0 (get_or-set_other queue tail i s 0 (λ z. omega arith)))
      (λ n. (e.stays n).0 i h)

  pub enters_longer : tail ≤ tail'
  enters_longer = by_cases (ℕ_discrete rest 1) (λ one. omega (arith, (e.enters one).1)) (λ n. omega (arith, (e.stays n).1))

-- the number of the test that x is 1: 1 if it holds, else 0
pub flag_le : (x : ℕ) → bool_byte (eqb x 1) ≤ 1
flag_le x = by_cases (ℕ_discrete x 1) (λ e. rw (eq-eqb x 1 e) (omega arith)) (λ n. rw (ne_eqb x 1 n) (omega arith))

-- a row is stored at the tail, which moves on by that number
pub stored : (queue : List ℕ) (tail s rest : ℕ) → Enters queue tail s rest (set queue tail s) (tail + bool_byte (eqb rest 1))
stored queue tail s rest = record {
  enters = λ e. rw (eq-eqb rest 1 e) (refl, refl);
  stays = λ n. rw (ne_eqb rest 1 n) ((λ i h. get_or-set_other queue tail i s 0 (λ e. omega arith)), omega arith);
}

-- no row is looked at yet
pub queued_none : {tally queue : List ℕ} {Q : ℕ → Type 0} → ((r : ℕ) → ¬ (Q r)) → Queued tally queue Q 0 0
queued_none none = record {
  order = omega arith;
  entries = record { looked = λ i h. absurd (omega arith); apart = λ i j h k e. absurd (omega arith); low = λ i h. absurd (omega arith) };
  waiting = λ r h e. absurd (none r h);
}

-- the queue is no longer than there are rows
module _ {rows : ℕ} {Q : ℕ → Type 0} (few : (r : ℕ) → Q r → r < rows) {tally queue : List ℕ} {head tail : ℕ} where
  pub full : Queued tally queue Q head tail → tail ≤ rows
  full q =
      omega (
        arith,
        length_up_to rows,
        injection_length tail (λ i. get_or queue i 0) (up_to rows) (λ i h. ∈_up_to (few _ (q.entries.looked i h))) q.entries.apart,
      )

  pub room : {s : ℕ} → Waits tally queue Q head tail s → counts tally s ≡ 1 → tail < rows
  room {s} q e =
      omega (
        arith,
        length_up_to rows,
        length_without_lt (∈_up_to (few s q.inside)),
        injection_length tail (λ i. get_or queue i 0) (without s (up_to rows))
            (λ i h. ∈_without (∈_up_to (few _ (q.entries.looked i h))) (λ k. q.fresh i h k e)) q.entries.apart,
      )

-- ---- rows are looked at

module _ {tally queue : List ℕ} {Q : ℕ → Type 0} {head tail : ℕ} (q : Queued tally queue Q head tail) (Q' : ℕ → Type 0) (all : (r : ℕ) → Q r → Q' r) where
  -- one more, row s
  pub looks : (s : ℕ) → Q' s → ((r : ℕ) → Q' r → r ≢ s → Q r) → (counts tally s ≡ 1 → ¬ (Q s)) → Waits tally queue Q' head tail s
  looks s h only new = record {
    order = q.order;
    entries = record { looked = λ i h. all _ (q.entries.looked i h); apart = q.entries.apart; low = q.entries.low };
    waiting = λ r h n e. q.waiting r (only r h n) e;
    inside = h;
    fresh = λ i h e one. new one (subst Q e (q.entries.looked i h));
  }

  -- any that have not exactly one left
  pub widened : ((r : ℕ) → Q' r → counts tally r ≡ 1 → Q r) → Queued tally queue Q' head tail
  widened old = record {
    order = q.order;
    entries = record { looked = λ i h. all _ (q.entries.looked i h); apart = q.entries.apart; low = q.entries.low };
    waiting = λ r h e. q.waiting r (old r h e) e;
  }

-- ---- the rows are scanned from 0 on

-- what sweeping the rows from i up to j requires
pub record Sweepable (tally queue : List ℕ) (i j tail : ℕ) : Type 0 where
  pub queued : Queued tally queue (Below i) 0 tail
  pub order : i ≤ j
  pub tally_long : j ≤ length tally
  pub queue_long : j ≤ length queue
  pub few : j ≤ 2 * max_t

module _ {tally queue : List ℕ} {Q : ℕ → Type 0} {head tail s : ℕ} (q : Waits tally queue Q head tail s) (l : tail < length queue) (one : counts tally s ≡ 1) where
  last : get_or (set queue tail s) tail 0 ≡ s
  last = get_or-set_same queue tail s 0 l

  early : (i : ℕ) → i < tail → get_or (set queue tail s) i 0 ≡ get_or queue i 0
  early i h = get_or-set_other queue tail i s 0 (λ e. omega arith)

  -- what holds of the old entries and of the new one holds of all
  each : (P : ℕ → ℕ → Type 0) → ((i : ℕ) → i < tail → P i (get_or queue i 0)) → P tail s
      → (i : ℕ) → i < tail + 1 → P i (get_or (set queue tail s) i 0)
  each P old new i h =
      by_cases (ℕ_discrete i tail)
      (λ e. rw (e, last) new)
      (λ n. let k : i < tail = omega arith in rw (early i k) (old i k))

  pushed : Queued tally (set queue tail s) Q head (tail + 1)
  pushed = record {
    order = omega (arith, q.order);
    entries = record {
      looked = each (λ i r. Q r) q.entries.looked q.inside;
      apart = λ i j h k.
          each (λ i r. r ≡ get_or (set queue tail s) j 0 → i ≡ j)
          (λ i h. each (λ j r. get_or queue i 0 ≡ r → i ≡ j) (λ j k. q.entries.apart i j h k) (λ e. absurd (q.fresh i h e one)) j k)
          (each (λ j r. s ≡ r → tail ≡ j) (λ j k e. absurd (q.fresh j k (sym e) one)) (λ e. refl) j k)
          i h;
      low = each (λ i r. counts tally r ≤ 1) q.entries.low (omega arith);
    };
    waiting = λ r h e.
        by_cases (ℕ_discrete r s)
        (λ k. (tail, q.order, omega arith, last ∙ sym k))
        (λ n. let w = q.waiting r h n e in (w.0, w.1, omega (arith, w.2), early w.0 w.2 ∙ w.3));
  }

-- what stands past the tail is free
beyond : {tally queue queue' : List ℕ} {Q : ℕ → Type 0} {head tail : ℕ} → Queued tally queue Q head tail
    → ((i : ℕ) → i < tail → get_or queue' i 0 ≡ get_or queue i 0) → Queued tally queue' Q head tail
beyond q same = record {
  order = q.order;
  entries = record {
    looked = λ i h. rw (same i h) (q.entries.looked i h);
    apart = λ i j h k e. q.entries.apart i j h k (sym (same i h) ∙ e ∙ same j k);
    low = λ i h. rw (same i h) (q.entries.low i h);
  };
  waiting = λ r h e. let w = q.waiting r h e in (w.0, w.1, w.2, same w.0 w.2 ∙ w.3);
}

pub entered : {tally queue : List ℕ} {Q : ℕ → Type 0} {head tail s rest : ℕ} {queue' : List ℕ} {tail' : ℕ} → Waits tally queue Q head tail s
    → (counts tally s ≡ 1 → tail < length queue) → rest ≡ counts tally s → Enters queue tail s rest queue' tail' → Queued tally queue' Q head tail'
entered {tally} {queue} {Q} {head} {tail} {s} {rest} {queue'} {tail'} q l same t =
    by_cases (ℕ_discrete rest 1)
    (λ one. let e = t.enters one in let k = sym same ∙ one in rw (e.0, e.1) (pushed q (l k) k))
    (λ n.
    let e = t.stays n in
    rw e.1
    (beyond
    (record {
      order = q.order;
      entries = q.entries;
      waiting = λ r h k. q.waiting r h (λ m. n (same ∙ subst (λ r. counts tally r ≡ 1) m k)) k;
    })
    e.0))

module _ {tally queue : List ℕ} {i j tail : ℕ} (w : Sweepable tally queue i j tail) where
  pub sweep_room : i < j → tail < length queue
  sweep_room h = omega (arith, full (λ r l. l) w.queued, w.queue_long)

  pub sweep_more : i < j → {queue' : List ℕ} {rest : ℕ} → queue' ≡ set queue tail i → rest ≡ counts tally i
      → Sweepable tally queue' (i + 1) j (tail + bool_byte (eqb rest 1))
  sweep_more h {rest = rest} f e = rw f (record {
    queued =
        entered
        (looks w.queued (Below (i + 1)) (λ r l. omega arith) i (omega arith) (λ r l n. omega arith) (λ _ l. omega arith))
        (λ _. sweep_room h) e (stored queue tail i rest);
    order = omega arith;
    tally_long = w.tally_long;
    queue_long = rw (length-set queue tail i) w.queue_long;
    few = w.few;
  })

  -- rows of which none has exactly one left are passed at once
  pub sweep_none : all_zero (map one (take (j - i) (drop i tally))) ≡ true → Queued tally queue (Below j) 0 tail
  unfolding counts
  sweep_none z = widened w.queued (Below j) (λ r l. omega (arith, w.order)) (λ r h e. by_cases (dec_lt r i) (λ k. k) (λ k. absurd (none r (omega arith) h e)))
    where
      none : (r : ℕ) → i ≤ r → r < j → counts tally r ≢ 1
      none r l h q =
          let k : r - i < j - i = omega arith in
          let m : i + (r - i) ≡ r = omega arith in
          let e : get_or (take (j - i) (drop i tally)) (r - i) 0 ≡ get_or tally (i + (r - i)) 0 = get_or-take (j - i) (drop i tally) (r - i) 0 k ∙ get_or-drop i tally (r - i) 0 in
          no_ones_at (take (j - i) (drop i tally)) z (r - i) (ap (λ y. y / tally_unit) (e ∙ ap (λ y. get_or tally y 0) m) ∙ q)

  -- sweeping the rows up to k first
  pub sweep_part : {k : ℕ} → i ≤ k → k ≤ j → Sweepable tally queue i k tail
  sweep_part l h = record {
    queued = w.queued;
    order = l;
    tally_long = omega (arith, w.tally_long);
    queue_long = omega (arith, w.queue_long);
    few = omega (arith, w.few);
  }

  pub sweep_rest : {queue' : List ℕ} {k tail' : ℕ} → k ≤ j → Queued tally queue' (Below k) 0 tail' → length queue' ≡ length queue → Sweepable tally queue' k j tail'
  sweep_rest h q l = record { queued = q; order = h; tally_long = w.tally_long; queue_long = omega (arith, w.queue_long); few = w.few }

-- the head's row has not one tally: it is passed over
pub passed : {tally queue : List ℕ} {Q : ℕ → Type 0} {head tail : ℕ} → Queued tally queue Q head tail → head < tail
    → counts tally (get_or queue head 0) ≢ 1 → Queued tally queue Q (head + 1) tail
passed {tally} {queue} {head = head} q h n = record {
  order = omega arith;
  entries = q.entries;
  waiting = λ r k e.
      let w = q.waiting r k e in
      let m : head ≢ w.0 = λ z. n (ap (λ i. counts tally (get_or queue i 0)) z ∙ ap (λ r. counts tally r) w.3 ∙ e) in
      (w.0, omega (arith, w.1, m), w.2, w.3);
}

-- the head's row is settled, and its other row may enter
pub taken : {tally queue tally' : List ℕ} {Q : ℕ → Type 0} {head tail b : ℕ} → Queued tally queue Q head tail → head < tail → Q b
    → Lowers tally tally' (get_or queue head 0) b → Waits tally' queue Q (head + 1) tail b
taken {tally} {queue} {tally'} {Q} {head} {tail} {b} q h l d = record {
  order = omega arith;
  entries = record { looked = q.entries.looked; apart = q.entries.apart; low = λ i k. omega (arith, fall (get_or queue i 0), q.entries.low i k) };
  waiting = λ r k n e.
      let m : r ≢ get_or queue head 0 = λ z. omega (arith, d.none, sym (ap (λ r. counts tally' r) z) ∙ e) in
      let w = q.waiting r k (sym (d.rest r m n) ∙ e) in
      let z : head ≢ w.0 = λ z. m (sym w.3 ∙ ap (λ i. get_or queue i 0) (sym z)) in
      (w.0, omega (arith, w.1, z), w.2, w.3);
  inside = l;
  fresh = λ i k e one. omega (arith, d.less, one, subst (λ r. counts tally r ≤ 1) e (q.entries.low i k));
}
  where
    fall : (r : ℕ) → counts tally' r ≤ counts tally r
    fall r =
        by_cases (ℕ_discrete r (get_or queue head 0))
        (λ e. rw e (omega (arith, d.none)))
        (λ n. by_cases (ℕ_discrete r b) (λ e. rw e (omega (arith, d.less))) (λ m. omega (arith, d.rest r n m)))

-- at the end no row has exactly one tally
pub emptied : {tally queue : List ℕ} {Q : ℕ → Type 0} {head tail : ℕ} → Queued tally queue Q head tail → tail ≤ head → (r : ℕ) → Q r → counts tally r ≢ 1
emptied q h r k e = let w = q.waiting r k e in omega (arith, w.1, w.2)
