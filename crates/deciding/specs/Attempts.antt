-- What an attempt by peeling shows. Main results: tried_fills, tried_recovers (nothing is left: the block is filled with the one codeword that agrees),
-- tried_explains (otherwise the refusal is explained: if the erasures are a forest, no codeword agrees), sum_array, cut_arrays (tables of any size),
-- call_given, call_decided (the call).
use Rattle.std.specs.Prelude.{◌≡◌, refl, Bool, true, false, List, [], ℕ, ◌*◌, ◌≤◌, ◌<◌, length, get_or, take, Ok}
use Rattle.std.proofs.Common.{sym, ◌∙◌, inl, true≢false, arith, ext_get_or, length-take-le}
use Rattle.std.proofs.Math.Path.{ap}
use Rattle.std.proofs.Math.Logic.{by_cases}
use mathlib.Core.List.Memᴰ
use Rattle.std.proofs.Math.ListN.{replicate}
use Rattle.math.specs.Members.{◌∈◌}
use Rattle.math.specs.MembersLaws.{dec_in}
use Rattle.plan.specs.Layout.{Layout, Valid, layout, top}
use Rattle.plan.specs.Plans.{layout_of}
use Rattle.plan.proofs.PlanLaws.{good_bounds}
use Rattle.plan.specs.declared.Plan.{Plan}
use Rattle.plan.specs.GoodPlan.{plan_valid}
use Rattle.code.specs.Places.{places}
use Rattle.code.specs.Codewords.{at, Agrees, None}
use Rattle.code.specs.Marks.{mark_bytes, erasures}
use Rattle.code.specs.Laws.Forest.{Erased, Forest}
use Rattle.code.proofs.Laws.Basics.{places_∈, syndrome_ext}
use Rattle.code.proofs.Laws.MarksLaws.{erasures_erased}
use Rattle.code.proofs.Laws.Leaves.{length_on_row_le}
use Rattle.tables.specs.Picture.{weight, Counted, Picture}
use Rattle.tables.specs.Sizes.{∈_good}
use Rattle.tables.specs.Counting.{from_place}
use Rattle.tables.proofs.Counting.{from_zero}
use Rattle.tables.specs.Scan.{Lent}
use Rattle.sums.specs.SumLaws.{Syndromes}
use Rattle.cycle.specs.Shows.{Room}
use Rattle.tables.proofs.Bounds.{tally_some, tally_none}
use Rattle.tables.specs.StuckLaws.{stuck_none}
use Rattle.peel.specs.Peels.{Peelable, Peeled, Peels}
use Rattle.starts.specs.Starts.{Startable}
use Rattle.settling.specs.Fill.{filled, Fillable, filled_long, filled_out, filled_at, clean_of, clean_zero, zero_clean}
use Rattle.calls.specs.Calls.{check_of}
use Rattle.calls.proofs.CallsLaws.{pass_good, pass_spare}
use Rattle.promises.specs.Promises.{Decides, Recovers, recover_lent}
use Rattle.promises.proofs.Building.{decides_recovered, recovers_passed, recover_lengths}
use Rattle.answers.specs.declared.Recovery.{Recovery}
use Rattle.answers.specs.declared.Recovery.TheVariants.{Recovered}
use Rattle.tables.specs.Zeros.{Zeros, zeros_of, zeros_room, zeros_part}
use Rattle.whole.specs.Whole.{Summed, Intact}
use Rattle.explaining.specs.Explains.{Explains}

-- what a call that is not refused is lent
pub record Given (n t : ℕ) (shifts block marks witness : List ℕ) : Type 0 where
  pub marked : Lent n t shifts marks
  pub block_long : length block ≡ n * t
  pub witness_long : length witness ≡ 2 * t

-- tables with room for an entry for each row: the sums, zeros, and any
pub record Cut (n t : ℕ) (shifts block sum tally place value : List ℕ) : Type 0 where
  pub summed : Summed n t shifts block sum
  pub tally_zeros : Zeros (2 * t) tally
  pub place_room : 2 * t ≤ length place
  pub value_room : 2 * t ≤ length value

-- the same with no entry more
pub record Tables (n t : ℕ) (shifts block sum tally place value : List ℕ) : Type 0 where
  pub sums : Syndromes n t shifts block sum
  pub tally_zeros : tally ≡ replicate (2 * t) 0
  pub place_long : length place ≡ 2 * t
  pub value_long : length value ≡ 2 * t

-- the tables picture the block with its erasures
pub record Begun (n t : ℕ) (shifts block marks sum tally : List ℕ) : Type 0 where
  pub symbols : (c : ℕ) → at block c < 256
  pub picture : Picture (layout n t shifts) (erasures (layout n t shifts) marks) (at block) sum tally

-- the tables begun are peeled, the k places and values being the ones settled
pub record Tried (n t : ℕ) (shifts block marks sum tally place value : List ℕ) (k : ℕ) : Type 0 where
  pub sum₀ : List ℕ
  pub tally₀ : List ℕ
  pub begun : Begun n t shifts block marks sum₀ tally₀
  pub peels : Peels (layout n t shifts) sum₀ tally₀ sum tally place value k

-- ---- a block v with erasures E, peeled

module _ (L : Layout) (ok : Valid L) (E v : List ℕ) {sum tally place value : List ℕ} {k : ℕ}
    (er : Erased L E) (whole : length v ≡ L.n * L.t) (p : Peeled L E (at v) sum tally place value k) where
  -- a codeword that agrees is what peeling found, wherever nothing is left
  agrees_found : (w : List ℕ) → Agrees L E v w → (c : ℕ) → c ∈ places L → ¬ (c ∈ p.F) → at w c ≡ p.x c
  agrees_found w a = p.settles.forced (at w) a.codeword.sums (λ c m out. a.unmarked c (places_∈ L m).0 out)

  settled_in : (i : ℕ) → i < k → get_or place i 0 < length v
  settled_in i h = let m = (places_∈ L (er.inside (get_or place i 0) (p.settles.settled i h).0)).0 in omega arith

  -- away from the erasures the filled block is as it was
  filled_same : (c : ℕ) → ¬ (c ∈ E) → at (filled v place value k) c ≡ at v c
  filled_same c out = filled_out v place value k (λ i h e. out (Memᴰ.cast (sym e) (p.settles.settled i h).0))

  module _ (clean : clean_of sum tally ≡ true) where
    none_left : (c : ℕ) → ¬ (c ∈ p.F)
    unfolding weight
    none_left c m = omega (arith, tally_some L ok p.picture.counted m (inl refl), (clean_zero sum tally clean (top L c)).1)

    filled_found : (c : ℕ) → at (filled v place value k) c ≡ p.x c
    filled_found c = by_cases (dec_in c E)
        (λ m. filled_at v place value p.x k settled_in p.settles.once (λ i h. (p.settles.settled i h).2) (p.settles.listed c m (none_left c)))
        (λ out. filled_same c out ∙ sym (p.settles.kept c out))

    filled_agrees : Agrees L E v (filled v place value k)
    filled_agrees = record {
      codeword = record {
        whole = filled_long v place value k ∙ whole;
        symbols = λ c. rw (filled_found c) (p.picture.byte c);
        sums = λ r h. syndrome_ext L (at (filled v place value k)) p.x r (λ c m. filled_found c)
            ∙ sym (p.picture.sums r h) ∙ (clean_zero sum tally clean r).0;
      };
      unmarked = λ c h out. filled_same c out;
    }

    filled_only : ((c : ℕ) → c < L.n * L.t → c ∈ places L) → (w : List ℕ) → Agrees L E v w → w ≡ filled v place value k
    filled_only all w a = ext_get_or 0 w (filled v place value k) (a.codeword.whole ∙ sym (filled_long v place value k ∙ whole))
        (λ c h. agrees_found w a c (all c (rw a.codeword.whole at h)) (none_left c) ∙ sym (filled_found c))

  -- a forest peels whole, so an agreeing codeword would leave no sum
  forest_none : clean_of sum tally ≡ false → Forest L E → None (Agrees L E v)
  forest_none dirty f w a =
      let empty : p.F ≡ [] = stuck_none L ok er.rising f p.picture.counted.erased.rising p.settles.fewer p.stuck in
      let out : (c : ℕ) → ¬ (c ∈ p.F) = λ c m. Memᴰ.not-nil (rw empty at m) in
      true≢false (sym (zero_clean sum tally
      (λ r h. let s : r < 2 * L.t = omega (arith, p.picture.sum_long) in
      p.picture.sums r s ∙ syndrome_ext L p.x (at w) r (λ c m. sym (agrees_found w a c m (out c))) ∙ a.codeword.sums r s)
      (λ r h. let e : length p.F ≡ 0 = ap length empty in
      tally_none L ok p.picture.counted (omega (arith, p.picture.counted.long)) (omega (arith, length_on_row_le L p.F r)))) ∙ dirty)

-- ---- the tables

-- The law of every size: arrays of k zeros are tables for a plan whose rows are at most k. First the one for the sums, then those beside the sums, and
-- the answer where the block is whole as it stands.
module _ {n t m : ℕ} {shifts block marks witness : List ℕ} (k : ℕ) (g : Given n t shifts block marks witness × (t ≤ m)) (h : 2 * m ≤ k) where
  pub sum_array : (Lent n t shifts marks × (length block ≡ n * t)) × Zeros (2 * t) (replicate k 0)
  sum_array = zeros_of k ((g.0.marked, g.0.block_long), g.1) h

  pub cut_arrays : {sum : List ℕ} → Summed n t shifts block sum
      → Given n t shifts block marks witness × Cut n t shifts block sum (replicate k 0) (replicate k 0) (replicate k 0)
  cut_arrays s = (g.0, record { summed = s; tally_zeros = sum_array.1; place_room = zeros_room sum_array.1; value_room = zeros_room sum_array.1 })

pub given_intact : {n t : ℕ} {shifts block marks witness w' : List ℕ} {b : Bool} {r : Recovery} → Given n t shifts block marks witness
    → Intact n t shifts block marks b → b ≡ true → (r ≡ Recovered) × (w' ≡ replicate (length witness) 0)
    → Decides (layout n t shifts) (erasures (layout n t shifts) marks) block r block w'
given_intact g i e q = i.decides e (q.0, q.1 ∙ ap (λ l. replicate l 0) g.witness_long)

pub cut_tables : {n t : ℕ} {shifts block sum tally place value : List ℕ} → Cut n t shifts block sum tally place value
    → Tables n t shifts block (take (2 * t) sum) (take (2 * t) tally) (take (2 * t) place) (take (2 * t) value)
cut_tables {t = t} {place = place} {value = value} c = record {
  sums = c.summed.sums;
  tally_zeros = zeros_part c.tally_zeros;
  place_long = length-take-le (2 * t) place c.place_room;
  value_long = length-take-le (2 * t) value c.value_room;
}

-- ---- the attempt

-- what the tables picture once the erasures are counted
pub begins : {n t : ℕ} {shifts block marks sum tally : List ℕ} → ((c : ℕ) → at block c < 256) → Syndromes n t shifts block sum
    → Counted (layout n t shifts) (from_place 0 (erasures (layout n t shifts) marks)) tally → Begun n t shifts block marks sum tally
unfolding layout
begins {n} {t} {shifts} {marks = marks} byte s p = record {
  symbols = byte;
  picture = record { sum_long = s.long; byte = byte; sums = s.each; counted = rw (from_zero (erasures (layout n t shifts) marks)) at p };
}

module _ {n t : ℕ} {shifts block marks witness sum tally place value tally₀ : List ℕ} (g : Given n t shifts block marks witness)
    (b : Tables n t shifts block sum tally₀ place value) (s : Begun n t shifts block marks sum tally) where
  pub attempt_peels : Peelable n t shifts sum tally witness place value × Startable n t shifts marks tally witness place
  attempt_peels = (
    record {
      good = g.marked.good;
      pictured = record { E = _; u = _; picture = s.picture };
      queue_long = g.witness_long;
      place_long = b.place_long;
      value_long = b.value_long;
    },
    record { lent = g.marked; counted = s.picture.counted; queue_long = g.witness_long; list_long = b.place_long },
  )

  pub attempt_tried : {sum' tally' place' value' : List ℕ} {k : ℕ} → Peels (layout n t shifts) sum tally sum' tally' place' value' k
      → Tried n t shifts block marks sum' tally' place' value' k
  attempt_tried q = record { sum₀ = _; tally₀ = _; begun = s; peels = q }

-- the witness list has served as the queue
pub given_after : {n t : ℕ} {shifts block marks witness witness' : List ℕ} → Given n t shifts block marks witness → length witness' ≡ length witness
    → Given n t shifts block marks witness'
given_after g e = record { marked = g.marked; block_long = g.block_long; witness_long = e ∙ g.witness_long }

module _ {n t : ℕ} {shifts block marks witness sum tally place value : List ℕ} {k : ℕ} (g : Given n t shifts block marks witness)
    (d : Tried n t shifts block marks sum tally place value k) where
  peeled : Peeled (layout n t shifts) (erasures (layout n t shifts) marks) (at block) sum tally place value k
  peeled = d.peels.peeled _ _ d.begun.picture

  pub tried_fills : Fillable block place value k
  unfolding layout
  tried_fills = record {
    places = omega (arith, d.peels.few, d.peels.place_long);
    values = omega (arith, d.peels.few, d.peels.value_long);
    inside = settled_in (layout n t shifts) (plan_valid g.marked.good) (erasures (layout n t shifts) marks) block (erasures_erased (layout n t shifts) marks) g.block_long peeled;
  }

  pub tried_recovers : {a : Recovery} {v' w' : List ℕ} → clean_of sum tally ≡ true → v' ≡ filled block place value k
      → (a ≡ Recovered) × (w' ≡ replicate (length witness) 0)
      → Decides (layout n t shifts) (erasures (layout n t shifts) marks) block a v' w'
  unfolding layout
  tried_recovers clean e q =
      let L = layout n t shifts in
      let ok = plan_valid g.marked.good in
      let E = erasures L marks in
      let er = erasures_erased L marks in
      rw (e, q.0) (decides_recovered (filled_agrees L ok E block er g.block_long peeled clean)
      (filled_only L ok E block er g.block_long peeled clean (λ c. ∈_good g.marked.good))
      (q.1 ∙ ap (λ i. replicate i 0) g.witness_long))

  pub tried_room : Room t sum tally place value
  unfolding layout
  tried_room = record {
    sum_long = peeled.picture.sum_long;
    tally_long = peeled.picture.counted.long;
    place_long = d.peels.place_long;
    value_long = d.peels.value_long;
  }

  pub tried_explains : {r : Recovery} {w' : List ℕ} → clean_of sum tally ≡ false
      → Explains (layout n t shifts) (erasures (layout n t shifts) marks) sum r w'
      → Decides (layout n t shifts) (erasures (layout n t shifts) marks) block r block w'
  unfolding layout
  tried_explains dirty x =
      x.decides block peeled.x g.block_long d.begun.symbols
      (λ c m out. peeled.settles.kept c out) peeled.picture.sums
      (forest_none (layout n t shifts) (plan_valid g.marked.good) (erasures (layout n t shifts) marks) block
      (erasures_erased (layout n t shifts) marks) g.block_long peeled dirty)

-- ---- the call

pub call_given : (p : Plan) (v m w : List ℕ) → check_of p (recover_lent v m w) m ≡ Ok tt → Given p.n p.t p.shifts v m w
unfolding layout_of layout mark_bytes
call_given p v m w pass =
    let l = recover_lengths p v m w pass in
    record {
      marked = record {
        good = good_bounds p (pass_good p (recover_lent v m w) m pass);
        marks_long = l.1;
        no_spare = pass_spare p (recover_lent v m w) m pass l.1;
      };
      block_long = l.0;
      witness_long = l.2;
    }

pub call_decided : (p : Plan) (v m w : List ℕ) {r : Recovery} {v' w' : List ℕ} → check_of p (recover_lent v m w) m ≡ Ok tt
    → Decides (layout p.n p.t p.shifts) (erasures (layout p.n p.t p.shifts) m) v r v' w' → Recovers p v m w r v' w'
unfolding layout_of
call_decided p v m w pass d = recovers_passed p v m w pass d
