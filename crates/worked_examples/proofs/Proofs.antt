-- The proof of the specimen table, row by row, in the table's order; main result: specimens.
-- What is about one plan is computed (ProofTests); parity places are counted by parity_count, distances given by the laws on them.
use Rattle.std.specs.Prelude.{◌≡◌, refl, ◌||◌, List, [], ◌∷◌, map, ℕ, ◌-◌, ◌*◌, ◌%◌, ◌<◌, eqb, length, set, replicate}
use Rattle.std.proofs.Common.{sym, ◌∙◌, ap, subst, inl, mul-one, div-one, arith, eqb-true}
use Rattle.std.proofs.Math.Logic.{by_cases}
use mathlib.Core.List.Memᴰ
use Rattle.std.proofs.Math.Decide.{ℕ_discrete}
use Rattle.math.specs.Members.{◌∈◌, is_in, from, up_to, keep, Rising, rising_none}
use Rattle.math.specs.MembersLaws.{by_place, ∉_is_in, ∈_up_to, rising_first, rising_ext, rising_distinct}
use Rattle.math.specs.Pigeonhole.{get_or_∈, distinct_get_or, rising_by_index}
use Rattle.math.specs.Xor.{◌⊕◌}
use Rattle.math.specs.Sums.{xor_over, only}
use Rattle.math.specs.Gcd.{euclid, gcd, gap, gcd_all}
use Rattle.plan.specs.Layout.{Layout, Valid, layout, top, bottom, divisor}
use Rattle.code.specs.Places.{places, rows, meets}
use Rattle.code.specs.Codewords.{at, syndrome, bit_of, Codeword, Agrees, Single, TwoOrMore, None}
use Rattle.code.specs.Marks.{mark, erasures}
use Rattle.code.specs.Cycles.{Cycle}
use Rattle.code.specs.Components.{Component, Inconsistent}
use Rattle.code.specs.Messages.{Message, Lists, Carries}
use Rattle.code.specs.Figures.{Least, NonzeroWeight, Capability, pair_number, Pair, Neighbours, Ruler, Figures}
use Rattle.code.specs.Laws.Forest.{Erased, Forest, above}
use Rattle.code.proofs.Laws.Basics.{∈_places}
use Rattle.code.specs.Laws.Labels.{merge, label}
use Rattle.code.proofs.Laws.Labels.{component_is}
use Rattle.code.proofs.Laws.Unique.{forest_unique}
use Rattle.code.proofs.Laws.CycleLaws.{two, forest_no_cycle}
use Rattle.code.proofs.Laws.Decide.{cycle_unique}
use Rattle.code.proofs.Laws.Paths.{above_head}
use Rattle.code.proofs.Laws.MarksLaws.{erasures_erased}
use Rattle.code.proofs.Laws.Pairs.{zero_agrees}
use Rattle.code.proofs.Laws.ParityCount.{parity_count}
use Rattle.code.proofs.Laws.Distance.{distance_other}
use Rattle.worked_examples.specs.Examples.{RoundsSpecimen, job, straight, drum, three, equal, four, six_marks, five_marks, Specimens}
use Rattle.worked_examples.specs.ProofTests.{every, every_below, every_two, once, closes, is_pair, is_next, numbers_from, valid_layout, valid_by_test, codeword_by_test, agrees_by_test, erased_by_marks, forest_by_test, single, not_two, none, messages_by_test, cycle_by_test, pair_by_test, neighbours_by_test, unequal_by_test}
use Rattle.worked_examples.proofs.Steps.{crossed_sum, drum_neighbours, five_marked, five_rounds, fives, job_cycle, job_distance, job_valid, pair_of, row_zero}

-- a cycle of erasures on the zero block
loose_by_cycle : (L : Layout) → Valid L → (E l : List ℕ) → Erased L E → Cycle L E l → TwoOrMore (Agrees L E (replicate (L.n * L.t) 0))
loose_by_cycle L ok E l er cy = two L ok E (replicate (L.n * L.t) 0) (replicate (L.n * L.t) 0) l er cy (zero_agrees L ok E)

six_marked : erasures job six_marks ≡ 0 ∷ 2 ∷ 7 ∷ 10 ∷ 16 ∷ 17 ∷ []
unfolding erasures mark bit_of places layout up_to from keep is_in
six_marked = refl

cycle : Cycle job (erasures job six_marks) (0 ∷ 7 ∷ 16 ∷ 2 ∷ 10 ∷ 17 ∷ [])
cycle = rw six_marked job_cycle

loose : TwoOrMore (Agrees job (erasures job six_marks) (replicate 21 0))
unfolding layout
loose = loose_by_cycle job job_valid (erasures job six_marks) (0 ∷ 7 ∷ 16 ∷ 2 ∷ 10 ∷ 17 ∷ []) (erasures_erased job six_marks) cycle

fives_codeword : Codeword job fives
unfolding layout every rows up_to from syndrome xor_over places keep is_in only meets top bottom ◌⊕◌
fives_codeword = codeword_by_test job fives refl refl refl

fives_agrees : Agrees job (2 ∷ 7 ∷ 10 ∷ 16 ∷ 17 ∷ []) (set (replicate 21 0) 0 5) fives
unfolding layout every up_to from is_in
fives_agrees = agrees_by_test job (2 ∷ 7 ∷ 10 ∷ 16 ∷ 17 ∷ []) (set (replicate 21 0) 0 5) fives fives_codeword refl

five_forest : Forest job (2 ∷ 7 ∷ 10 ∷ 16 ∷ 17 ∷ [])
unfolding layout every closes above keep label merge top bottom
five_forest = forest_by_test job job_valid (erased_by_marks job five_marks five_marked) refl

-- a cycle of the six begins with place 0, since the other five are a forest
begins_zero : (k : List ℕ) → Cycle job (0 ∷ 2 ∷ 7 ∷ 10 ∷ 16 ∷ 17 ∷ []) k → at k 0 ≡ 0
begins_zero k cy =
    by_cases (ℕ_discrete (at k 0) 0)
    (λ e. e)
    (λ ne. absurd (forest_no_cycle job job_valid (2 ∷ 7 ∷ 10 ∷ 16 ∷ 17 ∷ []) (erased_by_marks job five_marks five_marked) five_forest k
    (record {
      half = cy.half;
      even = cy.even;
      least = cy.least;
      inside = λ i h. by_place (cy.inside i h) (λ z. absurd (ne (omega (arith, cy.lowest i h, z)))) (λ m. m);
      distinct = cy.distinct;
      share_top = cy.share_top;
      share_bottom = cy.share_bottom;
      close = cy.close;
      tops_once = cy.tops_once;
      bottoms_once = cy.bottoms_once;
      lowest = cy.lowest;
    })))

job_cycle_only : (k : List ℕ) → Cycle job (0 ∷ 2 ∷ 7 ∷ 10 ∷ 16 ∷ 17 ∷ []) k → k ≡ 0 ∷ 7 ∷ 16 ∷ 2 ∷ 10 ∷ 17 ∷ []
job_cycle_only k cy =
    let er = erased_by_marks job six_marks six_marked in
    cycle_unique job job_valid er (Memᴰ.head refl) (rw (above_head er.rising) five_forest) cy job_cycle (begins_zero k cy) refl

cycle_only : (k : List ℕ) → Cycle job (erasures job six_marks) k → k ≡ 0 ∷ 7 ∷ 16 ∷ 2 ∷ 10 ∷ 17 ∷ []
cycle_only k cy = job_cycle_only k (rw six_marked at cy)

recovered : Single (Agrees job (erasures job five_marks) (set (replicate 21 0) 0 5))
recovered = rw five_marked (single job job_valid (erased_by_marks job five_marks five_marked) five_forest fives_agrees)

is_fives : recovered.one ≡ fives
is_fives = sym (recovered.only_one fives (rw five_marked fives_agrees))

symbol : at recovered.one 17 ≡ 5
symbol = rw is_fives

fives_crossed : Inconsistent job [] (at (set fives 0 6)) (0 ∷ [])
unfolding layout
fives_crossed =
    record {
      component = subst (λ l. Component job [] l) row_zero (component_is job [] (omega arith));
      unbalanced = λ e. omega (arith, crossed_sum, e);
      lowest = λ m _ _. omega arith;
    }

crossed_rows : Inconsistent job [] (at (set recovered.one 0 6)) (0 ∷ [])
crossed_rows = rw is_fives fives_crossed

crossed : None (Agrees job [] (set recovered.one 0 6))
crossed = none job job_valid (record { rising = rising_none; inside = λ c m. absurd (Memᴰ.not-nil m) }) crossed_rows

-- ---- message places

three_valid : Valid three
unfolding every up_to from
three_valid = valid_by_test 2 3 (0 ∷ 1 ∷ []) refl

message_three : Lists (Message three) (0 ∷ [])
unfolding layout places up_to from keep is_in closes above label merge top bottom
message_three = messages_by_test three three_valid refl

equal_valid : Valid equal
unfolding every up_to from
equal_valid = valid_by_test 2 3 (0 ∷ 0 ∷ []) refl

message_equal : Lists (Message equal) (0 ∷ 1 ∷ 2 ∷ [])
unfolding layout places up_to from keep is_in closes above label merge top bottom
message_equal = messages_by_test equal equal_valid refl

four_valid : Valid four
unfolding every up_to from
four_valid = valid_by_test 2 4 (0 ∷ 2 ∷ []) refl

message_four : Lists (Message four) (0 ∷ 1 ∷ [])
unfolding layout places up_to from keep is_in closes above label merge top bottom
message_four = messages_by_test four four_valid refl

-- ---- n 2, t 3, shifts 0 1: the message 9

nines_codeword : Codeword three (replicate 6 9)
unfolding layout every rows up_to from syndrome xor_over places keep is_in only meets top bottom ◌⊕◌
nines_codeword = codeword_by_test three (replicate 6 9) refl refl refl

carries : Carries three (replicate 6 9) (9 ∷ [])
carries = record { codeword = nines_codeword; where_to = 0 ∷ []; message_places = message_three; symbols = refl }

-- all places but the message place
others : erasures three (0x3e ∷ []) ≡ 1 ∷ 2 ∷ 3 ∷ 4 ∷ 5 ∷ []
unfolding erasures mark bit_of places layout up_to from keep is_in
others = refl

others_forest : Forest three (1 ∷ 2 ∷ 3 ∷ 4 ∷ 5 ∷ [])
unfolding layout every closes above keep label merge top bottom
others_forest = forest_by_test three three_valid (erased_by_marks three (0x3e ∷ []) others) refl

not_others : (c : ℕ) → c < 6 → ¬ (c ∈ (1 ∷ 2 ∷ 3 ∷ 4 ∷ 5 ∷ [])) → c ≡ 0
unfolding every up_to from is_in
not_others c h n = eqb-true c 0 (rw (∉_is_in n) at (every_below (λ c. is_in c (1 ∷ 2 ∷ 3 ∷ 4 ∷ 5 ∷ []) || eqb c 0) {n = 6} refl h))

carries_only : (w : List ℕ) → Carries three w (9 ∷ []) → w ≡ replicate 6 9
unfolding layout
carries_only w p =
    let e : p.where_to ≡ 0 ∷ [] = rising_ext p.message_places.rising message_three.rising
    (λ c m. (message_three.exact c).1 ((p.message_places.exact c).0 m)) (λ c m. (p.message_places.exact c).1 ((message_three.exact c).0 m)) in
    let s : at w 0 ≡ 9 = ap (λ l. at l 0) (sym (p.symbols ∙ ap (map (at w)) e)) in
    forest_unique three three_valid (1 ∷ 2 ∷ 3 ∷ 4 ∷ 5 ∷ []) (replicate 6 9) w (replicate 6 9) (erased_by_marks three (0x3e ∷ []) others) others_forest
    (record { codeword = p.codeword; unmarked = λ c h n. rw (not_others c h n) s })
    (record { codeword = nines_codeword; unmarked = λ c h n. refl })

-- ---- n 2, t 4, shifts 0 2

four_marked : erasures four (0x55 ∷ []) ≡ 0 ∷ 2 ∷ 4 ∷ 6 ∷ []
unfolding erasures mark bit_of places layout up_to from keep is_in
four_marked = refl

four_cycle : Cycle four (0 ∷ 2 ∷ 4 ∷ 6 ∷ []) (0 ∷ 4 ∷ 2 ∷ 6 ∷ [])
unfolding layout top bottom every every_two once is_in up_to from
four_cycle = cycle_by_test four (0 ∷ 2 ∷ 4 ∷ 6 ∷ []) (0 ∷ 4 ∷ 2 ∷ 6 ∷ []) 2 refl (omega arith) refl refl refl refl refl refl refl

loose_four : TwoOrMore (Agrees four (0 ∷ 2 ∷ 4 ∷ 6 ∷ []) (replicate 8 0))
unfolding layout
loose_four = loose_by_cycle four four_valid (0 ∷ 2 ∷ 4 ∷ 6 ∷ []) (0 ∷ 4 ∷ 2 ∷ 6 ∷ []) (erased_by_marks four (0x55 ∷ []) four_marked) four_cycle

three_marked : erasures four (0x15 ∷ []) ≡ 0 ∷ 2 ∷ 4 ∷ []
unfolding erasures mark bit_of places layout up_to from keep is_in
three_marked = refl

never_loose : (v : List ℕ) → ¬ (TwoOrMore (Agrees four (0 ∷ 2 ∷ 4 ∷ []) v))
unfolding layout every closes above keep label merge top bottom
never_loose =
    let er = erased_by_marks four (0x15 ∷ []) three_marked in not_two four four_valid er (forest_by_test four four_valid er refl)

figures : (L : Layout) → Valid L → {parity pair near distance : ℕ} → 0 < length L.sections → 2 * L.t - divisor L ≡ parity →
    Least (Capability L (Pair L)) pair → Least (Capability L (Neighbours L)) near → Least (NonzeroWeight L) distance → Figures L parity pair near distance
figures L ok some e a b c =
    let l = parity_count L ok some in record { parity_places = (l.0, (l.1, l.2 ∙ e)); pair_figure = a; neighbour_figure = b; distance_is = c }

figures_job : Figures job 13 13 13 6
unfolding layout up_to from divisor gcd_all gap gcd euclid is_in pair_number numbers_from is_pair is_next every_two every
figures_job =
    let p = pair_of job 0 1 refl refl (omega arith) in
    figures job job_valid (omega arith) refl (pair_by_test job 0 1 13 p refl refl)
    (neighbours_by_test job 0 1 13 (record { pair = p; next = inl refl }) refl refl) job_distance

straight_valid : Valid straight
unfolding every up_to from
straight_valid = valid_by_test 3 7 (0 ∷ 1 ∷ 2 ∷ []) refl

-- 1 - 0 is 2 - 1
straight_no_ruler : (t : ℕ) → ¬ (Ruler (layout 3 t (0 ∷ 1 ∷ 2 ∷ [])))
unfolding layout up_to from is_in
straight_no_ruler t r =
    let L : Layout = layout 3 t (0 ∷ 1 ∷ 2 ∷ []) in
    let e = r.rule 1 0 2 1 (pair_of L 1 0 refl refl (omega arith)) (pair_of L 2 1 refl refl (omega arith)) (ap (λ x. x % t) (omega arith)) in
    omega (arith, e.0)

straight_distance : Least (NonzeroWeight straight) 4
unfolding layout every_two every up_to from
straight_distance = distance_other straight straight_valid (omega arith) (unequal_by_test straight refl) (straight_no_ruler 7)

figures_straight : Figures straight 13 13 13 4
unfolding layout up_to from divisor gcd_all gap gcd euclid is_in pair_number numbers_from is_pair is_next every_two every
figures_straight =
    let p = pair_of straight 0 1 refl refl (omega arith) in
    figures straight straight_valid (omega arith) refl (pair_by_test straight 0 1 13 p refl refl)
    (neighbours_by_test straight 0 1 13 (record { pair = p; next = inl refl }) refl refl) straight_distance

drum_valid : Valid drum
unfolding every up_to from
drum_valid = valid_by_test 3 4 (0 ∷ 1 ∷ 2 ∷ []) refl

drum_distance : Least (NonzeroWeight drum) 4
unfolding layout every_two every up_to from
drum_distance = distance_other drum drum_valid (omega arith) (unequal_by_test drum refl) (straight_no_ruler 4)

figures_drum : Figures drum 7 3 3 4
unfolding layout up_to from divisor gcd_all gap gcd euclid is_in pair_number numbers_from is_pair every_two every
figures_drum =
    figures drum drum_valid (omega arith) refl (pair_by_test drum 2 0 3 (pair_of drum 2 0 refl refl (omega arith)) refl refl) drum_neighbours drum_distance

-- ---- t 1

rising_two : {c d : ℕ} → c < d → Rising (c ∷ d ∷ [])
rising_two {c} {d} h =
    rising_by_index (c ∷ d ∷ []) (λ i j a b. let e : i ≡ 0 = omega arith in let f : j ≡ 1 = omega arith in rw (e, f) h)

-- two places with the same two rows
two_cycle : (L : Layout) {c d : ℕ} → c < d → top L c ≡ top L d → bottom L d ≡ bottom L c → Cycle L (c ∷ d ∷ []) (c ∷ d ∷ [])
two_cycle L {c} {d} h tops bottoms =
    let l : List ℕ = c ∷ d ∷ [] in
    record {
      half = 1;
      even = refl;
      least = omega arith;
      inside = λ i k. get_or_∈ l k;
      distinct = λ i j a b e. distinct_get_or (rising_distinct (rising_two h)) a b e;
      share_top = λ i k. let z : i ≡ 0 = omega arith in rw z tops;
      share_bottom = λ i k. absurd (omega arith);
      close = bottoms;
      tops_once = λ i j a b _. omega arith;
      bottoms_once = λ i j a b _. omega arith;
      lowest = λ i k. rising_first (rising_two h) (get_or_∈ l k);
    }

loose_one : (n : ℕ) (shifts : List ℕ) → ((j : ℕ) → j < n → at shifts j ≡ 0) → (c d : ℕ) → c < d → d < n →
    TwoOrMore (Agrees (layout n 1 shifts) (c ∷ d ∷ []) (replicate n 0))
unfolding layout top bottom
loose_one n shifts zeros c d h k =
    let L : Layout = layout n 1 shifts in
    let ok : Valid L = valid_layout n 1 shifts (omega arith) (λ j l. omega (arith, zeros j l)) in
    let inside : (e : ℕ) → e ∈ (c ∷ d ∷ []) → e ∈ places L = λ e m.
    let small : e < n = by_place m (λ q. omega arith) (λ o. by_place o (λ q. omega arith) (λ z. absurd (Memᴰ.not-nil z))) in
    ∈_places L (omega arith) (rw (div-one e) (∈_up_to small)) in
    rw mul-one at (loose_by_cycle L ok (c ∷ d ∷ []) (c ∷ d ∷ []) (record { rising = rising_two h; inside = inside }) (two_cycle L h (omega arith) (omega arith)))

pub specimens : Specimens
specimens =
    record {
      six_marked = six_marked;
      loose = loose;
      cycle = cycle;
      cycle_only = cycle_only;
      five_marked = five_marked;
      five_count = ap length five_marked;
      recovered = recovered;
      symbol = symbol;
      crossed = crossed;
      crossed_rows = crossed_rows;
      message_three = message_three;
      carries = carries;
      carries_only = carries_only;
      message_equal = message_equal;
      message_four = message_four;
      loose_four = loose_four;
      never_loose = never_loose;
      figures_job = figures_job;
      figures_straight = figures_straight;
      figures_drum = figures_drum;
      loose_one = loose_one;
    }

pub rounds_specimen : RoundsSpecimen
rounds_specimen = record { five_rounds = five_rounds }
