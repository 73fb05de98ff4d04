-- The runs as lists: the message places one run after the other, their symbols, and a block filled with runs.
-- Main results: messages_runs, total_count, fronts_messages, filled-spread; part_write, one turn of a copy into a part.
use Rattle.std.specs.Prelude.{◌≡◌, ◌↔◌, length, take, drop, replicate}
use Rattle.std.proofs.Math.Path.{refl, ap₂}
use Rattle.std.proofs.Common.{sym, ◌∙◌, ap, mod-lt, div-add-mod', div-lt_iff_lt-mul, arith, length-append, drop-cons, take_at, drop_at, drop-drop}
use Rattle.std.proofs.Math.Logic.{⊎_elim, by_cases}
use mathlib.Core.List.Memᴰ
use mathlib.Core.List.{List, [], ◌∷◌, ◌++◌, map, map-append, append_assoc}
use Prim.Native.Nat.{ℕ, zero, suc, ◌+◌, ◌-◌, ◌*◌, ◌/◌, ◌%◌, ◌≤◌, ◌<◌}
use Rattle.std.proofs.Math.Decide.{ℕ_discrete, dec_lt}
use Rattle.std.proofs.Math.ListN.{get_or}
use Rattle.std.proofs.Math.Arith.{digits_div, digits_mod}
use Rattle.math.specs.Members.{◌∈◌, from, up_to, Rising, rising_none}
use Rattle.math.specs.MembersLaws.{∈_up_to, up_to_∈, ∈_from, from_∈, length_from, length_up_to, rising_from, rising_append, rising_ext}
use Rattle.plan.specs.Layout.{Layout, Valid, divisor, message_count}
use Rattle.code.specs.Places.{places}
use Rattle.code.specs.Messages.{Parity}
use Rattle.code.proofs.Laws.Basics.{places_∈, ∈_places, place_split}
use Rattle.code.proofs.Laws.ClosedForm.{closed_form}
use Rattle.code.specs.Laws.ParityCount.{parities, messages}
use Rattle.code.proofs.Laws.ParityCount.{parity_lists, message_lists, parity_or_message, length_messages}
use Rattle.runs.specs.Runs.{RunsOf}
use Rattle.runs.specs.Laws.Computing.{run_le}

-- the length of the first j runs
unfoldable pub total : List ℕ → ℕ → ℕ
total runs zero = 0
total runs (suc j) = total runs j + get_or runs j 0

-- the places of the first j runs
unfoldable pub run_places : ℕ → List ℕ → ℕ → List ℕ
run_places t runs zero = []
run_places t runs (suc j) = run_places t runs j ++ from (j * t) (get_or runs j 0)

-- the symbols there
unfoldable pub fronts : ℕ → List ℕ → List ℕ → ℕ → List ℕ
fronts t runs v zero = []
fronts t runs v (suc j) = fronts t runs v j ++ take (get_or runs j 0) (drop (j * t) v)

-- the first j sections, each with its run of the message m and zeros
unfoldable pub filled : ℕ → List ℕ → List ℕ → ℕ → List ℕ
unfolding total
filled t runs m zero = []
filled t runs m (suc j) = filled t runs m j ++ (take (get_or runs j 0) (drop (total runs j) m) ++ replicate (t - get_or runs j 0) 0)

-- ---- a list whose part is overwritten

-- a list that begins with p, written on from there up to e
pub part_write : (p x : List ℕ) (v : List ℕ) {a e : ℕ} {w : List ℕ} → w ≡ p ++ drop a v → length p ≡ a → a ≤ e
    → take a w ++ (x ++ drop (e - a) (drop a w)) ≡ (p ++ x) ++ drop e v
part_write p x v {a} {e} hw hp he =
    let k : a + (e - a) ≡ e = omega arith in
    rw (hw, take_at p (drop a v) a hp, drop_at p (drop a v) a hp, drop-drop (e - a) a v, k, append_assoc)

map_from : (v : List ℕ) (a k : ℕ) → a + k ≤ length v → map (λ c. get_or v c 0) (from a k) ≡ take k (drop a v)
unfolding from
map_from v a zero h = refl
map_from v a (suc k) h = rw (drop-cons v a 0 (omega arith)) (ap (λ l. get_or v a 0 ∷ l) (map_from v (suc a) k (omega arith)))

-- ---- totals

pub total_more : (runs : List ℕ) (j : ℕ) → total runs (suc j) ≡ total runs j + get_or runs j 0
unfolding total
total_more runs j = refl

pub total_le : (runs : List ℕ) {i : ℕ} (j : ℕ) → i ≤ j → total runs i ≤ total runs j
total_le runs {i} zero h = let e : i ≡ 0 = omega arith in rw e (omega arith)
total_le runs {i} (suc j) h =
    by_cases (ℕ_discrete i (suc j)) (λ e. rw e (omega arith)) (λ n. omega (arith, total_le runs {i = i} j (omega arith), total_more runs j))

pub total_within : (runs : List ℕ) {j n : ℕ} → j < n → total runs j + get_or runs j 0 ≤ total runs n
total_within runs {j} {n} h = omega (arith, total_le runs n h, total_more runs j)

pub length_run_places : (t : ℕ) (runs : List ℕ) (j : ℕ) → length (run_places t runs j) ≡ total runs j
unfolding run_places total
length_run_places t runs zero = refl
length_run_places t runs (suc j) = simp (length-append, length_from, length_run_places t runs j)

-- ---- the places of the runs

-- a place by its section and offset
pub place_parts : (t j c : ℕ) → j * t ≤ c → c < j * t + t → (c / t ≡ j) × (c % t ≡ c - j * t)
place_parts t j c h l =
    let e : j * t + (c - j * t) ≡ c = omega arith in
    let k : c - j * t < t = omega arith in
    (ap (λ d. d / t) (sym e) ∙ digits_div j k, ap (λ d. d % t) (sym e) ∙ digits_mod j k)

pub parts_place : (t : ℕ) {j : ℕ} (c : ℕ) → c / t ≡ j → c ≡ j * t + c % t
parts_place t c e = sym (div-add-mod' c t) ∙ ap (λ x. x * t + c % t) e

module _ (t : ℕ) (pos : 0 < t) (runs : List ℕ) (short : (j : ℕ) → get_or runs j 0 ≤ t) where
  in_run : (j : ℕ) {c : ℕ} → c ∈ from (j * t) (get_or runs j 0) → (c / t ≡ j) × (c % t < get_or runs (c / t) 0)
  in_run j {c} m =
      let h = from_∈ (j * t) (get_or runs j 0) m in
      let e = place_parts t j c h.0 (omega (arith, short j)) in
      (e.0, rw (e.0, e.1) (omega arith))

  pub run_places_∈ : (j : ℕ) {c : ℕ} → c ∈ run_places t runs j → (c / t < j) × (c % t < get_or runs (c / t) 0)
  unfolding run_places
  run_places_∈ zero m = absurd (Memᴰ.not-nil m)
  run_places_∈ (suc j) {c} m =
      ⊎_elim (λ i. let h = run_places_∈ j i in (omega (arith, h.0), h.1)) (λ i. let h = in_run j i in (omega (arith, h.0), h.1))
      (Memᴰ.append_cases (run_places t runs j) m)

  pub ∈_run_places : (j : ℕ) {c : ℕ} → c / t < j → c % t < get_or runs (c / t) 0 → c ∈ run_places t runs j
  unfolding run_places
  ∈_run_places zero h l = absurd (omega arith)
  ∈_run_places (suc j) {c} h l =
      by_cases (ℕ_discrete (c / t) j)
      (λ e. let f : c % t < get_or runs j 0 = rw (← e) l in
      Memᴰ.append_right (run_places t runs j) (∈_from (j * t) (get_or runs j 0) (omega (arith, parts_place t c e)) (omega (arith, parts_place t c e))))
      (λ n. Memᴰ.append_left (from (j * t) (get_or runs j 0)) (∈_run_places j (omega arith) l))

  pub rising_run_places : (j : ℕ) → Rising (run_places t runs j)
  unfolding run_places
  rising_run_places zero = rising_none
  rising_run_places (suc j) =
      rising_append (rising_run_places j) (rising_from (j * t) (get_or runs j 0))
      (λ c d m k. omega (arith, (div-lt_iff_lt-mul {x = c} {y = j} pos).0 (run_places_∈ j m).0, (from_∈ (j * t) (get_or runs j 0) k).0))

  -- their symbols
  pub map_run_places : (v : List ℕ) (j : ℕ) → j * t ≤ length v → map (λ c. get_or v c 0) (run_places t runs j) ≡ fronts t runs v j
  unfolding run_places fronts
  map_run_places v zero h = refl
  map_run_places v (suc j) h =
      map-append (λ c. get_or v c 0) (run_places t runs j) (from (j * t) (get_or runs j 0))
      ∙ ap₂ ◌++◌ (map_run_places v j (omega arith)) (map_from v (j * t) (get_or runs j 0) (omega (arith, short j)))

-- ---- the message places

-- the message count of a plan is the number of its message places
pub count_messages : (L : Layout) → Valid L → L.sections ≡ up_to L.n → 0 < L.n → length (messages L) ≡ message_count L
unfolding message_count
count_messages L ok all some =
    let e : length L.sections ≡ L.n = ap length all ∙ length_up_to L.n in
    length_messages L ok (omega arith) ∙ ap (λ k. k * L.t - (2 * L.t - divisor L)) e

module _ {n t : ℕ} {L : Layout} {runs : List ℕ} (h : RunsOf n t L runs) where
  pub runs_short : (j : ℕ) → get_or runs j 0 ≤ t
  runs_short j = rw (h.exact j, ← h.t_is) (run_le L h.valid (h.all ∙ ap up_to (sym h.n_is)) j)

  pub runs_positive : 0 < t
  runs_positive = rw (← h.t_is) h.valid.positive

  pub place_section : {c : ℕ} → c ∈ places L → c / t < n
  place_section {c} m = up_to_∈ n (rw (← h.all, ← h.t_is) (places_∈ L m).1)

  pub place_in : {c : ℕ} → c / t < n → c ∈ places L
  place_in {c} l = ∈_places L (rw (h.n_is, h.t_is) ((div-lt_iff_lt-mul runs_positive).0 l)) (rw (h.t_is, h.all) (∈_up_to l))

  -- a place from its section's run on is a parity place, one before is a message place
  parity_from : {c : ℕ} → c / t < n → Parity L c ↔ (get_or runs (c / t) 0 ≤ c % t)
  parity_from {c} l =
      let m : (c / L.t) ∈ L.sections = rw (h.t_is, h.all) (∈_up_to l) in
      rw (h.exact (c / t), ← h.t_is) (rw (place_split L.t c) at (closed_form L h.valid (c / L.t) (c % L.t) m (mod-lt c h.valid.positive)))

  pub parity_offset : {c : ℕ} → c / t < n → (c ∈ parities L) ↔ (get_or runs (c / t) 0 ≤ c % t)
  parity_offset {c} l =
      let e = (parity_lists L h.valid).exact c in
      let f = parity_from l in
      (λ m. f.0 (e.0 m), λ k. e.1 (f.1 k))

  pub message_offset : {c : ℕ} → c / t < n → (c ∈ messages L) ↔ (c % t < get_or runs (c / t) 0)
  message_offset {c} l =
      let e = (message_lists L h.valid).exact c in
      let f = parity_from l in (
        λ m. by_cases (dec_lt (c % t) (get_or runs (c / t) 0)) (λ k. k) (λ k. absurd ((f.1 (omega arith)).lowest_of_none (e.0 m).lowest_of_some)),
        λ k. ⊎_elim (λ p. absurd (omega (arith, f.0 p))) (λ q. e.1 q) (parity_or_message L h.valid c (place_in l)),
      )

  pub parity_section : {c : ℕ} → c ∈ parities L → c / t < n
  parity_section {c} m = place_section (((parity_lists L h.valid).exact c).0 m).inside

  -- the message places are the runs, one after the other
  pub messages_runs : messages L ≡ run_places t runs n
  messages_runs =
      rising_ext (message_lists L h.valid).rising (rising_run_places t runs_positive runs runs_short n)
      (λ c m. let l = place_section (((message_lists L h.valid).exact c).0 m).inside in
      ∈_run_places t runs_positive runs runs_short n l ((message_offset l).0 m))
      (λ c m. let q = run_places_∈ t runs_positive runs runs_short n m in (message_offset q.0).1 q.1)

  pub total_count : total runs n ≡ message_count L
  total_count =
      sym (length_run_places t runs n) ∙ ap length (sym messages_runs)
      ∙ count_messages L h.valid (h.all ∙ ap up_to (sym h.n_is)) (rw h.n_is h.some)

  pub fronts_messages : (v : List ℕ) → length v ≡ n * t → fronts t runs v n ≡ map (λ c. get_or v c 0) (messages L)
  fronts_messages v e =
      sym (map_run_places t runs_positive runs runs_short v n (omega arith)) ∙ ap (map (λ c. get_or v c 0)) (sym messages_runs)
