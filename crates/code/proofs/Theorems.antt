-- The theorems about the code, T1 to T11, each with one sentence, the fetch list and the rounds; their proofs are in Laws.
-- L is any valid layout: every plan that is not refused gives one (PlanLaws.good_valid of the crate plan). E are erasures: a rising list of places.
use Rattle.std.specs.Prelude.{◌≡◌, ◌↔◌, ◌≢◌, ◌⊎◌, ℕ, suc, ◌-◌, ◌*◌, ◌/◌, ◌≤◌, ◌<◌, length, replicate}
use mathlib.Core.List.{List, [], ◌∷◌, Memᴰ}
use Rattle.math.specs.Members.{◌∈◌, Distinct, without}
use Rattle.math.specs.Sums.{xor_over, only}
use Rattle.plan.specs.Layout.{Layout, Valid, place_of, top, bottom, divisor}
use Rattle.code.specs.Places.{places, matrix, meets}
use Rattle.code.specs.Codewords.{at, syndrome, Codeword, product, Agrees, Single, TwoOrMore, None}
use Rattle.code.specs.Checks.{Satisfies, Fills, update, row_checks}
use Rattle.code.specs.Cycles.{Cycle, Lowest}
use Rattle.code.specs.Components.{Connected, Component, imbalance, Inconsistent}
use Rattle.code.specs.Messages.{Parity, Message, Lists, Carries}
use Rattle.code.specs.FetchList.{less, FetchList, FetchBits}
use Rattle.code.specs.Figures.{Pair, pair_number, Least, NonzeroWeight, EqualShifts, Ruler}
use Rattle.code.specs.Rounds.{round, Rounds}
use Rattle.code.proofs.Laws.Labels.{dec_connected}
use Rattle.code.proofs.Laws.Balance
use Rattle.code.proofs.Laws.Carrying
use Rattle.code.proofs.Laws.ClosedForm
use Rattle.code.specs.Laws.Closings.{closings}
use Rattle.code.proofs.Laws.ClosingsFetch
use Rattle.code.proofs.Laws.CycleLaws
use Rattle.code.proofs.Laws.Distance
use Rattle.code.proofs.Laws.Fetched
use Rattle.code.proofs.Laws.FewerLoose
use Rattle.code.proofs.Laws.Matrix
use Rattle.code.proofs.Laws.Pairs
use Rattle.code.proofs.Laws.ParityCount
use Rattle.code.proofs.Laws.Paths
use Rattle.code.proofs.Laws.RoundsLaws
use Rattle.code.proofs.Laws.Unique
use Rattle.code.proofs.Laws.WholeGraph
use Rattle.code.proofs.Laws.Decide
use Rattle.code.proofs.Laws.Settle
use Rattle.code.specs.Laws.Forest.{Erased, Forest, above, class_of, run_of}

-- T1, over any family of parity checks (each a list of positions, none twice): a check K with the single erasure c settles it. The fillings of
-- (v, E) are exactly those of v with the sum of K's other symbols at c, and E without c.
pub settle : (checks : List (List ℕ)) (E : List ℕ) (v : ℕ → ℕ) (K : List ℕ) → Memᴰ K checks → Distinct K →
    (c : ℕ) → c ∈ K → c ∈ E → ((d : ℕ) → d ∈ K → d ∈ E → d ≡ c) → (w : ℕ → ℕ) →
    Fills checks E v w ↔ Fills checks (without c E) (update v c (xor_over (without c K) v)) w
settle = Settle.settle

-- and with no erasures left only v itself can agree
pub settled : (checks : List (List ℕ)) (v w : ℕ → ℕ) → Fills checks [] v w ↔ (Satisfies checks v × ((c : ℕ) → w c ≡ v c))
settled = Settle.settled

module _ (L : Layout) (ok : Valid L) where
  -- the rows are such checks
  pub rows_satisfied : (w : ℕ → ℕ) → Satisfies (row_checks L) w ↔ ((r : ℕ) → r < 2 * L.t → syndrome L w r ≡ 0)
  rows_satisfied = Settle.rows_satisfied L

  -- matrix (1) of 002 has its ones exactly where a place meets a row
  pub matrix_meets : {c r : ℕ} → c ∈ places L → r < 2 * L.t → matrix L r c ≡ only (meets L c r) 1
  matrix_meets = Matrix.matrix_meets L ok

  -- a block is a codeword exactly when for each of the eight bits H x = 0 over GF(2), H being matrix (1)
  pub codeword_by_matrix : (v : List ℕ) → length v ≡ L.n * L.t → ((c : ℕ) → at v c < 256) →
      Codeword L v ↔ ((b r : ℕ) → b < 8 → r < 2 * L.t → product L (at v) b r ≡ 0)
  codeword_by_matrix = Matrix.codeword_by_matrix L ok

  -- T2: whatever is put at the marked places, one row of a component that does not add up to 0 does not sum to 0
  pub crossed : (E : List ℕ) → Erased L E → (v : ℕ → ℕ) (l : List ℕ) → Component L E l → imbalance L E v l ≢ 0 →
      (w : ℕ → ℕ) → ((c : ℕ) → c ∈ places L → ¬ (c ∈ E) → w c ≡ v c) → (r : ℕ) × (r ∈ l) × (syndrome L w r ≢ 0)
  crossed = Balance.crossed L ok

  -- T3: if every component adds up to 0, a codeword agrees
  pub exists : (E v : List ℕ) → Erased L E → length v ≡ L.n * L.t → ((c : ℕ) → at v c < 256) →
      ((l : List ℕ) → Component L E l → imbalance L E (at v) l ≡ 0) → (w : List ℕ) × Agrees L E v w
  exists = Balance.exists L ok

  -- T4: a cycle of erasures and one agreeing codeword give a second
  pub two : (E v w l : List ℕ) → Erased L E → Cycle L E l → Agrees L E v w → TwoOrMore (Agrees L E v)
  two = CycleLaws.two L ok

  -- T5: the rows of c are connected by the erasures above c exactly when c is the lowest place of a cycle
  pub path : (E : List ℕ) (c : ℕ) → Erased L E → c ∈ E → Connected L (above c E) (top L c) (bottom L c) ↔ Lowest L E c
  path = Paths.path L ok

  -- T6: erasures hold a cycle or are a forest, never both; a forest has at most one agreeing codeword, and where a single one agrees, they are a forest
  pub forest_or_cycle : (E : List ℕ) → Erased L E → Forest L E ⊎ ((l : List ℕ) × Cycle L E l)
  forest_or_cycle = CycleLaws.forest_or_cycle L ok (dec_connected L)

  pub forest_no_cycle : (E : List ℕ) → Erased L E → Forest L E → (l : List ℕ) → ¬ (Cycle L E l)
  forest_no_cycle = CycleLaws.forest_no_cycle L ok

  pub forest_unique : (E v w x : List ℕ) → Erased L E → Forest L E → Agrees L E v w → Agrees L E v x → w ≡ x
  forest_unique = Unique.forest_unique L ok

  pub single_forest : (E v : List ℕ) → Erased L E → Single (Agrees L E v) → Forest L E
  single_forest = Decide.single_forest L ok

  -- of several cycles the one whose lowest place is highest is the only one with that lowest place
  pub cycle_unique : {E l m : List ℕ} {c : ℕ} → Erased L E → c ∈ E → Forest L (above c E) → Cycle L E l → Cycle L E m →
      at l 0 ≡ c → at m 0 ≡ c → l ≡ m
  cycle_unique = Decide.cycle_unique L ok

  -- T2 to T6 decide every block: a single codeword agrees; two or more do, and there is a cycle; none does, and there is a lowest unbalanced component
  pub decide : (E v : List ℕ) → Erased L E → length v ≡ L.n * L.t → ((c : ℕ) → at v c < 256) →
      Single (Agrees L E v) ⊎ ((TwoOrMore (Agrees L E v) × ((l : List ℕ) × Cycle L E l))
      ⊎ (None (Agrees L E v) × ((l : List ℕ) × Inconsistent L E (at v) l)))
  decide = Decide.decide L ok

  -- "So z is at most 2t."
  pub cycle_length : (E l : List ℕ) → Cycle L E l → length l ≤ 2 * L.t
  cycle_length = CycleLaws.cycle_length L ok

  -- T7: the components of the whole graph are the residues mod g
  pub whole_graph : 0 < length L.sections → (r s : ℕ) → r < 2 * L.t → s < 2 * L.t →
      Connected L (places L) r s ↔ (class_of L r ≡ class_of L s)
  whole_graph = WholeGraph.whole_graph L ok

  -- T8, Theorem 2 of 002: there are 2t - g parity places; every other place is a message place
  pub parity_count : 0 < length L.sections → (l : List ℕ) × Lists (Parity L) l × (length l ≡ 2 * L.t - divisor L)
  parity_count = ParityCount.parity_count L ok

  pub parity_or_message : (c : ℕ) → c ∈ places L → Parity L c ⊎ Message L c
  parity_or_message = ParityCount.parity_or_message L ok

  pub message_count_lem : 0 < length L.sections →
      (l : List ℕ) × Lists (Message L) l × (length l ≡ length L.sections * L.t - (2 * L.t - divisor L))
  message_count_lem = ParityCount.message_count_lem L ok

  -- T8, the closed form: the message places of a section are its first offsets
  pub closed_form : (j k : ℕ) → j ∈ L.sections → k < L.t → Parity L (place_of L.t j k) ↔ (run_of L j ≤ k)
  closed_form = ClosedForm.closed_form L ok

  -- a forest of erasures has at most 2t - g places
  pub forest_length : 0 < length L.sections → (E : List ℕ) → Erased L E → Forest L E → length E ≤ 2 * L.t - divisor L
  forest_length = ParityCount.forest_length L ok

  -- T9: every message is carried by exactly one codeword (all sections taking part), and every codeword carries exactly one message
  pub carried_once : ((j : ℕ) → j < L.n → j ∈ L.sections) → 0 < length L.sections → (m : List ℕ) → length m ≡ length L.sections * L.t - (2 * L.t - divisor L) →
      ((i : ℕ) → at m i < 256) → Single (λ w. Carries L w m)
  carried_once = Carrying.carried_once L ok

  pub carries_one : (w : List ℕ) → Codeword L w → Single (λ m. Carries L w m)
  carries_one = Carrying.carries_one L ok

  -- T10: a cycle inside two sections has exactly 2t / gcd places, and there is one
  pub pair_cycle : (i j : ℕ) → Pair L i j → (E l : List ℕ) → Erased L E → Cycle L E l →
      ((c : ℕ) → c ∈ E → (c / L.t ≡ i) ⊎ (c / L.t ≡ j)) → length l ≡ pair_number L i j
  pair_cycle = Pairs.pair_cycle L ok

  pub pair_cycle_some : (i j : ℕ) → Pair L i j → (E : List ℕ) × (l : List ℕ) × Erased L E × Cycle L E l
      × ((c : ℕ) → c ∈ E → (c / L.t ≡ i) ⊎ (c / L.t ≡ j)) × (length l ≡ pair_number L i j)
  pair_cycle_some = Decide.pair_cycle_some L ok

  -- the pair sentence: fewer marks inside the two are never loose, whatever the symbols
  pub pair_never : (i j : ℕ) → Pair L i j → (E v : List ℕ) → Erased L E →
      ((c : ℕ) → c ∈ E → (c / L.t ≡ i) ⊎ (c / L.t ≡ j)) → length E < pair_number L i j → ¬ (TwoOrMore (Agrees L E v))
  pair_never = Pairs.pair_never L ok

  -- and some set of exactly that many, marked on the zero block, is loose
  pub pair_some : (i j : ℕ) → Pair L i j → (E : List ℕ) × Erased L E
      × ((c : ℕ) → c ∈ E → (c / L.t ≡ i) ⊎ (c / L.t ≡ j)) × (length E ≡ pair_number L i j)
      × TwoOrMore (Agrees L E (replicate (L.n * L.t) 0))
  pair_some = Pairs.pair_some L ok

  -- T11: "For n of 3 or more the distance is 2 with equal shifts, 6 under the ruler rule, else 4; for n = 2 it is the pair figure plus 1."
  pub distance_equal : EqualShifts L → Least (NonzeroWeight L) 2
  distance_equal = Distance.distance_equal L ok

  pub distance_ruler : 3 ≤ length L.sections → Ruler L → Least (NonzeroWeight L) 6
  distance_ruler = Distance.distance_ruler L ok

  pub distance_other : 3 ≤ length L.sections → ¬ (EqualShifts L) → ¬ (Ruler L) → Least (NonzeroWeight L) 4
  distance_other = Distance.distance_other L ok

  pub distance_pair : (i j : ℕ) → L.sections ≡ i ∷ j ∷ [] → Least (NonzeroWeight L) (pair_number L i j)
  distance_pair = Distance.distance_pair L ok

  -- the fetch list (document 02, N2): all erasures have one
  pub fetch_list_some : (E : List ℕ) → Erased L E → (F : List ℕ) × FetchList L E F
  fetch_list_some E er = (closings L E, ClosingsFetch.closings_fetch L ok er)

  -- with no erasures but those that it leaves, at most one codeword agrees
  pub fetched_never : {E F K : List ℕ} (v : List ℕ) → FetchList L E F → Erased L K → ((c : ℕ) → c ∈ K → (c ∈ E) × ¬ (c ∈ F)) → ¬ (TwoOrMore (Agrees L K v))
  fetched_never v p = Fetched.fetched_never L ok p v

  -- with fewer places taken away, whichever they are, some cycle is left, and two codewords agree with the zero block
  pub fewer_leave : {E F : List ℕ} → FetchList L E F → Erased L E → (G : List ℕ) → length G < length F → (l : List ℕ) × Cycle L (less E G) l
  fewer_leave = Fetched.fewer_leave L ok

  pub fewer_loose : {E F : List ℕ} → FetchList L E F → Erased L E → (G : List ℕ) → length G < length F → TwoOrMore (Agrees L (less E G) (replicate (L.n * L.t) 0))
  fewer_loose = FewerLoose.fewer_loose L ok

  -- the rounds (document 02, N5): erasures that are a forest have their number
  pub rounds_some : (E : List ℕ) → Erased L E → Forest L E → (k : ℕ) × Rounds L E k
  rounds_some E er f = RoundsLaws.rounds_some L ok er.rising f

  -- "It is at most t and at most the number of marks"
  pub rounds_most : (E : List ℕ) {k : ℕ} → Erased L E → Forest L E → Rounds L E k → (k ≤ L.t) × (k ≤ length E)
  rounds_most E er f = RoundsLaws.rounds_most L ok er.rising f

-- only one list is the fetch list; with no erasures it is empty, with every place erased it is the message places
pub fetch_list_once : {L : Layout} {E F G : List ℕ} → FetchList L E F → FetchList L E G → F ≡ G
fetch_list_once = Fetched.fetch_list_once

pub fetch_list_none : {L : Layout} {F : List ℕ} → FetchList L [] F → F ≡ []
fetch_list_none = Fetched.fetch_list_none

pub fetch_list_of_all : (L : Layout) {F : List ℕ} → FetchList L (places L) F → Lists (Message L) F
fetch_list_of_all L p = ParityCount.lowest_messages L p.list

-- only one list of bytes says it, and one number counts it
pub fetch_bits_once : {L : Layout} {E m l : List ℕ} {k x y : ℕ} → FetchBits L E k m x → FetchBits L E k l y → (m ≡ l) × (x ≡ y)
fetch_bits_once = Fetched.fetch_bits_once

-- "without marks it is 0"; with a mark it is one more than for those that one round leaves; and it is one number
pub rounds_none : (L : Layout) → Rounds L [] 0
rounds_none = RoundsLaws.rounds_none

pub rounds_next : (L : Layout) (E : List ℕ) {k : ℕ} → 0 < length E → Rounds L (round L E) k → Rounds L E (suc k)
rounds_next = RoundsLaws.rounds_next

pub rounds_once : (L : Layout) (E : List ℕ) {j k : ℕ} → Rounds L E j → Rounds L E k → j ≡ k
rounds_once = RoundsLaws.rounds_once
