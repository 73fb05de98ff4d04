-- Sealing: the parity places are a forest, so peeling settles them all, and the block becomes the codeword that carries the message.
-- Main results: section_due and section_noted (the parity places counted), peelable, fillable, settled, sealed.
use Rattle.std.specs.Prelude.{◌≡◌, ◌↔◌, List, [], map, ℕ, ◌+◌, ◌-◌, ◌*◌, ◌/◌, ◌≤◌, ◌<◌, length, get_or, take, drop, replicate}
use Rattle.std.proofs.Math.Path.{sym}
use Rattle.std.proofs.Common.{◌∙◌, ap, subst, ⊎_elim, suc-mul, mul-le-mul_right, add-one, arith, length-take-le}
use Rattle.std.proofs.Math.Logic.{by_cases}
use mathlib.Core.List.Memᴰ
use mathlib.Core.List.Memᴰ.{head as first}
use mathlib.Core.List.Memᴰ.{tail as later}
use Rattle.std.proofs.lemmas.List.{length-map}
use Rattle.std.proofs.Math.Seq.{ext_get_or}
use Rattle.math.specs.Members.{◌∈◌}
use Rattle.math.specs.MembersLaws.{dec_in}
use Rattle.bounds.specs.Bounds.{max_places}
use Rattle.plan.specs.Layout.{Layout, Valid, layout}
use Rattle.plan.specs.GoodPlan.{GoodPlan, plan_valid}
use Rattle.code.specs.Places.{places}
use Rattle.code.specs.Codewords.{at, Agrees}
use Rattle.code.specs.Messages.{Carries}
use Rattle.code.proofs.Laws.Basics.{places_∈}
use Rattle.code.proofs.Laws.Carrying.{lists_unique, carried_some}
use Rattle.code.specs.Laws.ParityCount.{parities, messages}
use Rattle.code.proofs.Laws.ParityCount.{erased_parities, forest_parities, parity_lists, parity_or_message, message_lists}
use Rattle.tables.specs.Picture.{Counted, Picture}
use Rattle.tables.specs.Sizes.{∈_good}
use Rattle.tables.specs.Spots.{Stands}
use Rattle.tables.proofs.Spots.{stands_section, stands_offset}
use Rattle.sums.specs.SumLaws.{Syndromes}
use Rattle.tables.specs.Counting.{Seen, All, Due, Notes}
use Rattle.tables.proofs.Counting.{seen_skip, seen_all}
use Rattle.tables.specs.Zeros.{Zeros, zeros_of, zeros_room, zeros_part}
use Rattle.tables.specs.StuckLaws.{stuck_none}
use Rattle.settling.specs.Fill.{filled, Fillable, filled_at, filled_out, filled_long}
use Rattle.peel.specs.Peels.{Peelable, Peels, Peeled}
use Rattle.runs.specs.Runs.{RunsOf}
use Rattle.runs.specs.Laws.Fronts.{runs_short, parity_offset}

-- a plan's numbers, its runs, and a block of its length
pub record Sealable (n t : ℕ) (shifts runs block : List ℕ) : Type 0 where
  pub good : GoodPlan n t shifts
  pub of : RunsOf n t (layout n t shifts) runs
  pub block_long : length block ≡ n * t

-- three tables with an entry for each row
pub record Room (t : ℕ) (a b c : List ℕ) : Type 0 where
  pub first_long : length a ≡ 2 * t
  pub second_long : length b ≡ 2 * t
  pub third_long : length c ≡ 2 * t

-- tables of zeros with an entry for each row
pub record Blank (t : ℕ) (sum tally : List ℕ) : Type 0 where
  pub sum_zeros : sum ≡ replicate (2 * t) 0
  pub tally_zeros : tally ≡ replicate (2 * t) 0

-- the same with more room, and three tables beside them
pub record Cut (t : ℕ) (sum tally queue place value : List ℕ) : Type 0 where
  pub sum_zeros : Zeros (2 * t) sum
  pub tally_zeros : Zeros (2 * t) tally
  pub queue_room : 2 * t ≤ length queue
  pub place_room : 2 * t ≤ length place
  pub value_room : 2 * t ≤ length value

pub cut_blank : {t : ℕ} {sum tally queue place value : List ℕ} → Cut t sum tally queue place value
    → Blank t (take (2 * t) sum) (take (2 * t) tally)
cut_blank c = record {
  sum_zeros = zeros_part c.sum_zeros;
  tally_zeros = zeros_part c.tally_zeros;
}

pub cut_room : {t : ℕ} {sum tally queue place value : List ℕ} → Cut t sum tally queue place value
    → Room t (take (2 * t) queue) (take (2 * t) place) (take (2 * t) value)
cut_room {t = t} {queue = queue} {place = place} {value = value} c = record {
  first_long = length-take-le (2 * t) queue c.queue_room;
  second_long = length-take-le (2 * t) place c.place_room;
  third_long = length-take-le (2 * t) value c.value_room;
}

-- the law of every size: arrays of k zeros are tables for a plan whose rows are at most k
pub cut_arrays : {n t m : ℕ} {shifts runs block : List ℕ} (k : ℕ) → Sealable n t shifts runs block × (t ≤ m) → 2 * m ≤ k
    → Sealable n t shifts runs block × Cut t (replicate k 0) (replicate k 0) (replicate k 0) (replicate k 0) (replicate k 0)
cut_arrays {t = t} k (g, l) h =
    let z = (zeros_of {t = t} k (g, l) h).1 in
    (g, record { sum_zeros = z; tally_zeros = z; queue_room = zeros_room z; place_room = zeros_room z; value_room = zeros_room z })

-- ---- the parity places counted, section by section

module _ {n t : ℕ} {shifts runs : List ℕ} (s : GoodPlan n t shifts) (h : RunsOf n t (layout n t shifts) runs) where
  -- a section and the next
  pub section_next : (j : ℕ) {end : ℕ} → end ≡ j * t → end + t ≡ (j + 1) * t
  section_next j e = let f : (j + 1) * t ≡ j * t + t = rw (add-one j, suc-mul) in omega arith

  pub section_fits : {j end : ℕ} → j < n → end ≡ j * t → (end + t ≤ max_places) × (get_or runs j 0 ≤ t)
  section_fits {j} l e =
      let g : j + 1 ≤ n = omega arith in
      (omega (arith, section_next j e, mul-le-mul_right t g, s.places_max), runs_short h j)

  pub sections_end : {j : ℕ} → n ≤ j → n * t ≤ j * t
  sections_end l = mul-le-mul_right t l

  -- the parity places of a section are those from its run on
  section_parity : (j d : ℕ) → j < n → j * t ≤ d → d < j * t + t → (d ∈ parities (layout n t shifts)) ↔ (j * t + get_or runs j 0 ≤ d)
  section_parity j d l a b =
      let st : Stands t d j (d - j * t) = record { whole = omega arith; within = omega arith } in
      let o = parity_offset h {c = d} (rw (stands_section st) l) in
      let e : get_or runs (d / t) 0 ≡ get_or runs j 0 = ap (λ i. get_or runs i 0) (stands_section st) in
      (λ m. omega (arith, o.0 m, e, stands_offset st), λ k. o.1 (omega (arith, e, stands_offset st)))

  module _ {tally : List ℕ} {j c e : ℕ} (l : j < n) (ec : c ≡ j * t + get_or runs j 0) (ee : e ≡ j * t + t)
      (S : Seen n t shifts (parities (layout n t shifts)) (j * t) tally) where
    section_all : All (parities (layout n t shifts)) c e
    section_all d a b = (section_parity j d l (omega arith) (omega arith)).1 (omega arith)

    section_seen : Seen n t shifts (parities (layout n t shifts)) c tally
    section_seen = seen_skip c S (omega arith) (λ d a b m. let k = (section_parity j d l a (omega (arith, runs_short h j))).0 m in omega arith)

    pub section_due : Due n t shifts c e tally
    section_due = record {
      good = s;
      E = parities (layout n t shifts);
      erased = erased_parities (layout n t shifts);
      all = section_all;
      seen = section_seen;
    }

    pub section_noted : {tally' : List ℕ} → Notes n t shifts c e tally tally' → Seen n t shifts (parities (layout n t shifts)) e tally'
    section_noted N = N.notes (parities (layout n t shifts)) (erased_parities (layout n t shifts)) section_all section_seen

  pub all_noted : {tally : List ℕ} {c : ℕ} → Seen n t shifts (parities (layout n t shifts)) c tally → n * t ≤ c
      → Counted (layout n t shifts) (parities (layout n t shifts)) tally
  all_noted S g = seen_all s (erased_parities (layout n t shifts)) S g

-- the tables picture the block with the parity places as erasures
abbrev pub ParityPicture : Layout → List ℕ → List ℕ → List ℕ → Type 0
ParityPicture L block sum tally = Picture L (parities L) (λ c. get_or block c 0) sum tally

-- the block becomes every codeword that agrees with it off the parity places
pub record Settled (L : Layout) (v v' : List ℕ) : Type 0 where
  pub found : (w : List ℕ) → Agrees L (parities L) v w → v' ≡ w

pub parity_picture : {n t : ℕ} {shifts block sum tally : List ℕ} → ((c : ℕ) → get_or block c 0 < 256) → Syndromes n t shifts block sum
    → Counted (layout n t shifts) (parities (layout n t shifts)) tally → ParityPicture (layout n t shifts) block sum tally
unfolding layout
parity_picture byte s c = record { sum_long = s.long; byte = byte; sums = s.each; counted = c }

pub peelable : {n t : ℕ} {shifts : List ℕ} → GoodPlan n t shifts → (v : List ℕ) {sum tally queue place value : List ℕ} →
    ParityPicture (layout n t shifts) v sum tally → Room t queue place value → Peelable n t shifts sum tally queue place value
peelable {n} {t} {shifts} s v p room = record {
  good = s;
  pictured = record { E = parities (layout n t shifts); u = λ c. get_or v c 0; picture = p };
  queue_long = room.first_long;
  place_long = room.second_long;
  value_long = room.third_long;
}

module _ {n t : ℕ} {shifts : List ℕ} (s : GoodPlan n t shifts) (v : List ℕ) (long : length v ≡ n * t) {sum tally sum' tally' place value : List ℕ} {k : ℕ}
    (pic : ParityPicture (layout n t shifts) v sum tally)
    (p : Peels (layout n t shifts) sum tally sum' tally' place value k) where
  ends : Peeled (layout n t shifts) (parities (layout n t shifts)) (λ c. get_or v c 0) sum' tally' place value k
  ends = p.peeled _ _ pic

  -- peeling left nothing
  none_left : ends.F ≡ []
  none_left =
      stuck_none (layout n t shifts) (plan_valid s) (erased_parities (layout n t shifts)).rising (forest_parities (layout n t shifts))
      ends.picture.counted.erased.rising ends.settles.fewer ends.stuck

  place_inside : (i : ℕ) → i < k → get_or place i 0 < length v
  unfolding layout
  place_inside i h =
      rw long (places_∈ (layout n t shifts) ((erased_parities (layout n t shifts)).inside _ (ends.settles.settled i h).0)).0

  pub fillable : Fillable v place value k
  unfolding layout
  fillable = record {
    places = omega (arith, p.few, p.place_long);
    values = omega (arith, p.few, p.value_long);
    inside = place_inside;
  }

  -- the filled block, place by place
  filled_is : (c : ℕ) → get_or (filled v place value k) c 0 ≡ ends.x c
  filled_is c =
      by_cases (dec_in c (parities (layout n t shifts)))
      (λ m. filled_at v place value ends.x k place_inside ends.settles.once (λ i h. (ends.settles.settled i h).2)
      (ends.settles.listed c m (λ q. Memᴰ.not-nil (subst (λ F. c ∈ F) none_left q))))
      (λ out. filled_out v place value k (λ i h e. out (Memᴰ.cast (sym e) (ends.settles.settled i h).0))
      ∙ sym (ends.settles.kept c out))

  pub settled : {v' : List ℕ} → v' ≡ filled v place value k → Settled (layout n t shifts) v v'
  unfolding layout
  settled e = record {
    found = λ w a. e ∙ ext_get_or 0 (filled v place value k) w (filled_long v place value k ∙ long ∙ sym a.codeword.whole)
        (λ c h. filled_is c
        ∙ sym (ends.settles.forced (at w) a.codeword.sums
        (λ d i out. a.unmarked d (places_∈ (layout n t shifts) i).0 out)
        c (∈_good s (omega (arith, filled_long v place value k))) (λ q. Memᴰ.not-nil (subst (λ F. c ∈ F) none_left q))));
  }

map_at : (f g : ℕ → ℕ) {c : ℕ} {l : List ℕ} → map f l ≡ map g l → c ∈ l → f c ≡ g c
map_at f g e (first q) = ap f q ∙ ap (λ l. get_or l 0 0) e ∙ sym (ap g q)
map_at f g e (later m) = map_at f g (ap (λ l. drop 1 l) e) m

-- a codeword that carries what stands at the message places agrees with the block
holding_agrees : (L : Layout) → Valid L → {d v w : List ℕ} → ((c : ℕ) → c < L.n * L.t → c ∈ places L) → map (at v) (messages L) ≡ d → Carries L w d → Agrees L (parities L) v w
holding_agrees L ok {d} {v} {w} inside holds p = record {
  codeword = p.codeword;
  unmarked = λ c h n.
      let e : map (at w) (messages L) ≡ map (at v) (messages L) =
      ap (map (at w)) (lists_unique (message_lists L ok) p.message_places) ∙ sym p.symbols ∙ sym holds in
      map_at (at w) (at v) e
      (⊎_elim (λ q. absurd (n (((parity_lists L ok).exact c).1 q))) (λ q. ((message_lists L ok).exact c).1 q) (parity_or_message L ok c (inside c h)));
}

-- the message stands at its places, whatever stands at the parity places, and these are filled: the block carries the message
pub sealed : {n t : ℕ} {shifts d v v' : List ℕ} → GoodPlan n t shifts → ((i : ℕ) → get_or d i 0 < 256) →
    map (at v) (messages (layout n t shifts)) ≡ d → Settled (layout n t shifts) v v' → Carries (layout n t shifts) v' d
unfolding layout
sealed {n} {t} {shifts} {d} {v} s byte holds q =
    let L = layout n t shifts in
    let ok : Valid L = plan_valid s in
    let c = carried_some L ok d (ap length (sym holds) ∙ length-map (messages L) (at v)) byte in
    subst (λ x. Carries L x d) (sym (q.found c.0 (holding_agrees L ok (λ a h. ∈_good s h) holds c.1))) c.1
