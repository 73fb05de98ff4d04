-- Walking a cycle by the tallies of its rows, each of which has two places: what `mate`, `pair` and `walk` require and promise, and the walk's invariant.
-- Main results: mate, paired, walking_start, walking_more, walking_end.
use Rattle.std.specs.Prelude.{◌≡◌, ◌≢◌, List, ℕ, ◌+◌, ◌-◌, ◌*◌, ◌/◌, ◌≤◌, ◌<◌, length, get_or, take, set, replicate}
use Rattle.std.proofs.Common.{sym, ◌∙◌, ap, subst, mod-lt, div-lt_iff_lt-mul, arith, length-take-le}
use Rattle.std.proofs.Math.Logic.{by_cases}
use Rattle.std.proofs.Math.Decide.{dec_lt}
use Rattle.math.specs.Padded.{padded, length_padded, padded_none, padded_take, padded_all}
use Rattle.bounds.specs.Bounds.{max_places}
use Rattle.plan.specs.Layout.{layout, top, bottom, bottom_row}
use Rattle.plan.specs.GoodPlan.{GoodPlan, plan_valid}
use Rattle.code.specs.Places.{Meets}
use Rattle.code.specs.Codewords.{at}
use Rattle.code.proofs.Laws.Basics.{meets_row}
use Rattle.tables.specs.Picture.{tally_unit, weight}
use Rattle.tables.specs.Sizes.{∈_good}
use Rattle.tables.specs.Spots.{Stands}
use Rattle.tables.proofs.Spots.{stands_section, stands_inside, stands_top, stands_bottom}
use Rattle.tables.specs.Beside.{Beside}
use Rattle.tables.proofs.Beside.{beside_offset, beside_place}

-- ---- the other place on a row

-- row r has two places, c and d
pub record Two (n t : ℕ) (shifts tally : List ℕ) (r c d : ℕ) : Type 0 where
  pub one_inside : c < n * t
  pub other_inside : d < n * t
  pub other_meets : Meets (layout n t shifts) d r
  pub tallied : get_or tally r 0 ≡ weight t c + weight t d

-- what `mate` requires: place c is symbol k of section j, and row r has it and another
pub record Mating (n t : ℕ) (shifts tally : List ℕ) (r c j k : ℕ) : Type 0 where
  pub good : GoodPlan n t shifts
  pub long : length tally ≡ 2 * t
  pub stands : Stands t c j k
  pub other : ℕ
  pub two : Two n t shifts tally r c other

-- what it promises: the other place, symbol k of section j
pub record Mate (n t : ℕ) (shifts tally : List ℕ) (r c place j k : ℕ) : Type 0 where
  pub is : (d : ℕ) → Two n t shifts tally r c d → (place ≡ d) × Stands t d j k

module _ {n t : ℕ} {shifts tally : List ℕ} {r c j k : ℕ} (m : Mating n t shifts tally r c j k) where
  pub mate_row : r < 2 * t
  unfolding layout
  mate_row = meets_row (layout n t shifts) (plan_valid m.good) m.other m.two.other_meets

  sections : (d : ℕ) → Two n t shifts tally r c d → get_or tally r 0 ≡ 2 * tally_unit + j + d / t
  unfolding weight
  sections d w = omega (arith, w.tallied, stands_section m.stands)

  pub mate_room : 2 * tally_unit + j ≤ get_or tally r 0
  mate_room = omega (arith, sections m.other m.two)

  section_small : (d : ℕ) → Two n t shifts tally r c d → d / t < n
  section_small d w = (div-lt_iff_lt-mul {y = n} m.good.t_min).1 w.other_inside

  pub mate_few : get_or tally r 0 < 4 * tally_unit
  mate_few =
      omega (
        arith,
        sections m.other m.two,
        section_small m.other m.two,
        stands_inside m.stands n m.two.one_inside,
        m.good.n_max,
      )

  -- i is the other section
  module _ {i : ℕ} (e : i ≡ get_or tally r 0 - 2 * tally_unit - j) where
    its_section : (d : ℕ) → Two n t shifts tally r c d → d / t ≡ i
    its_section d w = omega (arith, sections d w)

    pub mate_shift : (i < length shifts) × (get_or shifts i 0 < t)
    mate_shift =
        let h : i < n = subst (λ x. x < n) (its_section m.other m.two) (section_small m.other m.two) in
        (omega (arith, m.good.long), m.good.below i h)

    module _ {o b : ℕ} (q : Beside t (get_or shifts i 0) r o b) where
      found : (d : ℕ) → Two n t shifts tally r c d → i * t + o ≡ d
      found d w = beside_place m.good (∈_good m.good w.other_inside) w.other_meets (its_section d w) q

      pub mate_place : i * t + o < max_places
      mate_place = omega (arith, found m.other m.two, m.two.other_inside, m.good.places_max)

      pub mate : {place : ℕ} → place ≡ i * t + o → Mate n t shifts tally r c place i o
      mate ep = record {
        is = λ d w. (
          ep ∙ found d w,
          record {
            whole = sym (found d w);
            within = rw (beside_offset m.good (∈_good m.good w.other_inside) w.other_meets (its_section d w) q) (mod-lt d m.good.t_min);
          },
        );
      }

-- ---- two places at a time

-- d is the other place on c's top row, and e the other on d's bottom row
pub record Couple (n t : ℕ) (shifts tally : List ℕ) (c d e : ℕ) : Type 0 where
  pub on_top : Two n t shifts tally (top (layout n t shifts) c) c d
  pub on_bottom : Two n t shifts tally (bottom (layout n t shifts) d) d e

-- what `pair` requires: place c is symbol k of section j
pub record Coupled (n t : ℕ) (shifts tally : List ℕ) (c j k : ℕ) : Type 0 where
  pub good : GoodPlan n t shifts
  pub long : length tally ≡ 2 * t
  pub stands : Stands t c j k
  pub second : ℕ
  pub third : ℕ
  pub couple : Couple n t shifts tally c second third

-- what it promises: c and the second place are written at z and after it, and the third is given, symbol k of section j
pub record Paired (n t : ℕ) (shifts tally : List ℕ) (c : ℕ) (w w' : List ℕ) (z place j k : ℕ) : Type 0 where
  pub written : (d e : ℕ) → Couple n t shifts tally c d e → w' ≡ set (set w z c) (z + 1) d
  pub next : (d e : ℕ) → Couple n t shifts tally c d e → (place ≡ e) × Stands t e j k

module _ {n t : ℕ} {shifts tally : List ℕ} {c j k : ℕ} (p : Coupled n t shifts tally c j k) {h : ℕ} (eh : h ≡ k) where
  at_top : {d : ℕ} → Two n t shifts tally (top (layout n t shifts) c) c d → Two n t shifts tally h c d
  at_top {d} w = subst (λ r. Two n t shifts tally r c d) (stands_top p.stands n shifts ∙ sym eh) w

  pub couple_top : Mating n t shifts tally h c j k
  couple_top = record { good = p.good; long = p.long; stands = p.stands; other = p.second; two = at_top p.couple.on_top }

  -- what the top row gives
  module _ {place i o : ℕ} (m : Mate n t shifts tally h c place i o) where
    second_is : (d : ℕ) → Two n t shifts tally (top (layout n t shifts) c) c d → (place ≡ d) × Stands t d i o
    second_is d w = m.is d (at_top w)

    pub second_stands : Stands t place i o
    second_stands = let s = second_is p.second p.couple.on_top in subst (λ x. Stands t x i o) (sym s.0) s.1

    pub second_shift : (i < length shifts) × (get_or shifts i 0 < t)
    second_shift =
        let l : i < n = stands_inside (second_is p.second p.couple.on_top).1 n p.couple.on_top.other_inside in
        (omega (arith, p.good.long), p.good.below i l)

    module _ {b : ℕ} (eb : b ≡ bottom_row t (get_or shifts i 0) o) where
      at_bottom : {d e : ℕ} → Couple n t shifts tally c d e → Two n t shifts tally b place e
      at_bottom {d} {e} q =
          let s = second_is d q.on_top in
          subst (λ x. Two n t shifts tally b x e) (sym s.0) (subst (λ r. Two n t shifts tally r d e) (stands_bottom s.1 n shifts ∙ sym eb) q.on_bottom)

      pub couple_bottom : Mating n t shifts tally b place i o
      couple_bottom = record { good = p.good; long = p.long; stands = second_stands; other = p.third; two = at_bottom p.couple }

      pub paired : (w w₁ w' : List ℕ) (z : ℕ) {place' i' o' : ℕ} → Mate n t shifts tally b place place' i' o' → w₁ ≡ set w z c → w' ≡ set w₁ (z + 1) place
          → Paired n t shifts tally c w w' z place' i' o'
      paired w w₁ w' z m' ew₁ ew = record {
        written = λ d e q. ew ∙ ap (λ l. set l (z + 1) place) ew₁ ∙ ap (set (set w z c) (z + 1)) (second_is d q.on_top).0;
        next = λ d e q. m'.is e (at_bottom q);
      }

-- ---- the walk

-- l is walked by the tallies of its rows, from a first place
pub record Walks (n t : ℕ) (shifts tally : List ℕ) (first : ℕ) (l : List ℕ) : Type 0 where
  pub half : ℕ
  pub even : length l ≡ 2 * half
  pub least : 1 ≤ half
  pub short : length l ≤ 2 * t
  pub once : (i : ℕ) → i < length l → at l i ≡ at l 0 → i ≡ 0
  pub start : first ≡ at l 0
  pub tops : (i : ℕ) → i < half → Two n t shifts tally (top (layout n t shifts) (at l (2 * i))) (at l (2 * i)) (at l (2 * i + 1))
  pub bottoms : (i : ℕ) → i + 1 < half → Two n t shifts tally (bottom (layout n t shifts) (at l (2 * i + 1))) (at l (2 * i + 1)) (at l (2 * i + 2))
  pub close : Two n t shifts tally (bottom (layout n t shifts) (at l (length l - 1))) (at l (length l - 1)) (at l 0)

-- what `walk` requires: the first place is symbol k of section j
pub record Walkable (n t : ℕ) (shifts tally : List ℕ) (first j k : ℕ) : Type 0 where
  pub good : GoodPlan n t shifts
  pub long : length tally ≡ 2 * t
  pub stands : Stands t first j k
  pub cycle : List ℕ
  pub walks : Walks n t shifts tally first cycle

-- what `walk` promises
pub record Walked (n t : ℕ) (shifts tally : List ℕ) (first : ℕ) (w : List ℕ) (r : ℕ) : Type 0 where
  pub written : (l : List ℕ) → Walks n t shifts tally first l → w ≡ padded (2 * t) l
  pub counted : (l : List ℕ) → Walks n t shifts tally first l → r ≡ length l

-- z places of l are written, and the next one is symbol k of section j
pub record Walking (t : ℕ) (l w : List ℕ) (z place j k : ℕ) : Type 0 where
  pub turns : ℕ
  pub count : z ≡ 2 * turns
  pub below : z < length l
  pub place_is : place ≡ at l z
  pub stands : Stands t place j k
  pub written : w ≡ padded (2 * t) (take z l)

module _ {n t : ℕ} {shifts tally : List ℕ} {first : ℕ} {l : List ℕ} (sz : GoodPlan n t shifts) (s : Walks n t shifts tally first l) where
  pub walking_start : (w : List ℕ) {j k : ℕ} → Stands t first j k → w ≡ replicate (2 * t) 0 → Walking t l w 0 first j k
  walking_start w st e =
      record {
        turns = 0;
        count = omega arith;
        below = omega (arith, s.even, s.least);
        place_is = s.start;
        stands = st;
        written = e ∙ sym (padded_none (2 * t));
      }

  module _ {w : List ℕ} {z place j k : ℕ} (g : Walking t l w z place j k) where
    pub walking_room : z + 1 < 2 * t
    walking_room = omega (arith, s.even, s.short, g.count, g.below)

    pub walking_long : length w ≡ 2 * t
    walking_long = ap length g.written ∙ length_padded (2 * t) (take z l) (omega (arith, length-take-le z l (omega (arith, g.below)), s.short, g.below))

    -- the place after the next two, e
    two_then : (e : ℕ) → Two n t shifts tally (bottom (layout n t shifts) (at l (z + 1))) (at l (z + 1)) e → Couple n t shifts tally place (at l (z + 1)) e
    two_then e q = record {
      on_top = rw (g.place_is, g.count) (s.tops g.turns (omega (arith, s.even, g.count, g.below)));
      on_bottom = q;
    }

    couple_more : z + 2 < length l → Couple n t shifts tally place (at l (z + 1)) (at l (z + 2))
    couple_more h = two_then (at l (z + 2)) (rw g.count (s.bottoms g.turns (omega (arith, s.even, g.count))))

    couple_last : z + 2 ≡ length l → Couple n t shifts tally place (at l (z + 1)) (at l 0)
    couple_last h = let e : length l - 1 ≡ z + 1 = omega arith in two_then (at l 0) (rw e at s.close)

    pub walking_couple : length tally ≡ 2 * t → Coupled n t shifts tally place j k
    walking_couple long =
        by_cases (dec_lt (z + 2) (length l))
        (λ h. record { good = sz; long = long; stands = g.stands; second = _; third = _; couple = couple_more h })
        (λ h. record { good = sz; long = long; stands = g.stands; second = _; third = _; couple = couple_last (omega (arith, s.even, g.count, g.below)) })

    module _ {w' : List ℕ} {place' j' k' : ℕ} (p : Paired n t shifts tally place w w' z place' j' k') where
      written_two : (e : ℕ) → Couple n t shifts tally place (at l (z + 1)) e → w' ≡ padded (2 * t) (take (z + 2) l)
      written_two e q =
          let i : z + 1 + 1 ≡ z + 2 = omega arith in
          p.written (at l (z + 1)) e q
          ∙ ap (λ v. set (set v z place) (z + 1) (at l (z + 1))) g.written
          ∙ ap (λ c. set (set (padded (2 * t) (take z l)) z c) (z + 1) (at l (z + 1))) g.place_is
          ∙ ap (λ v. set v (z + 1) (at l (z + 1))) (padded_take (2 * t) z l g.below s.short)
          ∙ padded_take (2 * t) (z + 1) l (omega (arith, s.even, g.count, g.below)) s.short
          ∙ ap (λ i. padded (2 * t) (take i l)) i

      next_home : z + 2 ≡ length l → place' ≡ first
      next_home h = (p.next (at l (z + 1)) (at l 0) (couple_last h)).0 ∙ sym s.start

      -- the first place is met again: all is written
      pub walking_end : place' ≡ first → z + 2 ≡ length l
      walking_end e =
          by_cases (dec_lt (z + 2) (length l))
          (λ h. absurd (omega (arith, s.once (z + 2) h (sym (p.next (at l (z + 1)) (at l (z + 2)) (couple_more h)).0 ∙ e ∙ s.start))))
          (λ h. omega (arith, s.even, g.count, g.below))

      pub walking_all : place' ≡ first → w' ≡ padded (2 * t) l
      walking_all e = written_two (at l 0) (couple_last (walking_end e)) ∙ padded_all (2 * t) (z + 2) l (walking_end e)

      pub walking_more : place' ≢ first → Walking t l w' (z + 2) place' j' k'
      walking_more n =
          let h : z + 2 < length l = by_cases (dec_lt (z + 2) (length l)) (λ h. h)
          (λ h. absurd (n (next_home (omega (arith, s.even, g.count, g.below))))) in
          let q = p.next (at l (z + 1)) (at l (z + 2)) (couple_more h) in
          record {
            turns = g.turns + 1;
            count = omega (arith, g.count);
            below = h;
            place_is = q.0;
            stands = subst (λ c. Stands t c j' k') (sym q.0) q.1;
            written = written_two (at l (z + 2)) (couple_more h);
          }
