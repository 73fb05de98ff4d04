-- Facts that the specimen table rests on, each by itself: what a wrong entry of the table is refused at.
use Rattle.std.specs.Prelude.{◌≡◌, refl, ◌≢◌, true, List, [], ◌∷◌, ℕ, set}
use Rattle.std.proofs.Common.{inr, arith}
use Rattle.math.specs.Members.{◌∈◌, is_in, from, up_to, keep}
use Rattle.math.specs.MembersLaws.{is_in_∈}
use Rattle.math.specs.Xor.{◌⊕◌}
use Rattle.math.specs.Sums.{xor_over, only}
use Rattle.math.specs.Gcd.{euclid, gcd, gap}
use Rattle.plan.specs.Layout.{Layout, Valid, layout, top, bottom}
use Rattle.code.specs.Places.{places, rows, meets}
use Rattle.code.specs.Codewords.{at, syndrome, bit_of, blank}
use Rattle.code.specs.Marks.{mark, erasures}
use Rattle.code.specs.Cycles.{Cycle}
use Rattle.code.specs.Components.{imbalance}
use Rattle.code.specs.Figures.{Least, NonzeroWeight, Capability, pair_number, Pair, Neighbours}
use Rattle.code.specs.Rounds.{on_row, alone, round, Rounds}
use Rattle.code.proofs.Theorems.{rounds_none, rounds_next}
use Rattle.code.specs.Laws.Labels.{label, component_of}
use Rattle.code.proofs.Laws.Distance.{distance_ruler}
use Rattle.worked_examples.specs.Examples.{job, drum, five_marks}
use Rattle.worked_examples.specs.ProofTests.{every, every_two, once, is_next, numbers_from, is_ruler, same_pair, valid_by_test, cycle_by_test, neighbours_by_test, ruler_by_test}

-- ---- the job: n 3, t 7, shifts 0 1 3

pub job_valid : Valid job
unfolding every up_to from
job_valid = valid_by_test 3 7 (0 ∷ 1 ∷ 3 ∷ []) refl

pub five_marked : erasures job five_marks ≡ 2 ∷ 7 ∷ 10 ∷ 16 ∷ 17 ∷ []
unfolding erasures mark bit_of places layout up_to from keep is_in
five_marked = refl

pub job_cycle : Cycle job (0 ∷ 2 ∷ 7 ∷ 10 ∷ 16 ∷ 17 ∷ []) (0 ∷ 7 ∷ 16 ∷ 2 ∷ 10 ∷ 17 ∷ [])
unfolding layout top bottom every every_two once is_in up_to from
job_cycle = cycle_by_test job (0 ∷ 2 ∷ 7 ∷ 10 ∷ 16 ∷ 17 ∷ []) (0 ∷ 7 ∷ 16 ∷ 2 ∷ 10 ∷ 17 ∷ []) 3 refl (omega arith) refl refl refl refl refl refl refl

-- the agreeing codeword: 5 on the cycle, 0 elsewhere
abbrev pub fives : List ℕ
fives = 5 ∷ 0 ∷ 5 ∷ 0 ∷ 0 ∷ 0 ∷ 0 ∷ 5 ∷ 0 ∷ 0 ∷ 5 ∷ 0 ∷ 0 ∷ 0 ∷ 0 ∷ 0 ∷ 5 ∷ 5 ∷ 0 ∷ 0 ∷ 0 ∷ []

-- one round after the other: 7 and 17, then 10 and 16, then 2
pub first_round : round job (2 ∷ 7 ∷ 10 ∷ 16 ∷ 17 ∷ []) ≡ 2 ∷ 10 ∷ 16 ∷ []
unfolding round alone on_row layout keep meets top bottom
first_round = refl

pub second_round : round job (2 ∷ 10 ∷ 16 ∷ []) ≡ 2 ∷ []
unfolding round alone on_row layout keep meets top bottom
second_round = refl

pub third_round : round job (2 ∷ []) ≡ []
unfolding round alone on_row layout keep meets top bottom
third_round = refl

pub five_rounds : Rounds job (erasures job five_marks) 3
five_rounds =
    rw five_marked
    (rounds_next job _ (omega arith) (rw first_round
    (rounds_next job _ (omega arith) (rw second_round
    (rounds_next job _ (omega arith) (rw third_round
    (rounds_none job)))))))

-- that codeword with symbol 0 changed to 6
pub crossed_sum : imbalance job [] (at (set fives 0 6)) (0 ∷ []) ≡ 3
unfolding imbalance blank layout up_to from syndrome xor_over places keep is_in only meets top bottom ◌⊕◌
crossed_sum = refl

pub row_zero : component_of job [] 0 ≡ 0 ∷ []
unfolding component_of layout label rows up_to from keep
row_zero = refl

-- ---- figures

pub pair_of : (L : Layout) (i j : ℕ) → is_in i L.sections ≡ true → is_in j L.sections ≡ true → i ≢ j → Pair L i j
pair_of L i j a b n = record { first = is_in_∈ i L.sections a; second = is_in_∈ j L.sections b; differ = n }

pub job_distance : Least (NonzeroWeight job) 6
unfolding layout is_ruler same_pair every_two every up_to from
job_distance = distance_ruler job job_valid (omega arith) (ruler_by_test job refl)

-- sections 2 and 0 are neighbours and share 2
pub drum_neighbours : Least (Capability drum (Neighbours drum)) 3
unfolding layout up_to from gap gcd euclid is_in pair_number numbers_from is_next every_two every
drum_neighbours =
    neighbours_by_test drum 2 0 3 (record { pair = pair_of drum 2 0 refl refl (omega arith); next = inr (omega arith, refl, refl) })
    refl refl
