-- What recover, encode, message_of and fetch promise: a field for each sentence of demands 2 and 3, of 01's "Recovery" and "Sealing", and of 02's N2 and N4.
-- p the plan, v the block, m the marks, w the witness list, d the message, l the fetch list, each as lent; r the answer; v', w', .. the buffers as they are left.
use Rattle.std.specs.Prelude.{◌≡◌, ◌↔◌, ◌≢◌, List, [], ℕ, ◌-◌, ◌*◌, ◌≤◌, eqb, length, replicate, Some, Ok, Err, Result}
use Rattle.math.specs.Members.{◌∈◌}
use Rattle.math.specs.Padded.{padded}
use Rattle.plan.specs.Layout.{Layout}
use Rattle.plan.specs.Plans.{layout_of}
use Rattle.plan.specs.declared.Plan.{Plan}
use Rattle.code.specs.Places.{places}
use Rattle.code.specs.Codewords.{at, syndrome, Codeword, Agrees, Single, TwoOrMore, None}
use Rattle.code.specs.Marks.{mark_bytes, erasures}
use Rattle.code.specs.Cycles.{Cycle}
use Rattle.code.specs.Components.{Inconsistent}
use Rattle.code.specs.Messages.{Carries}
use Rattle.code.specs.FetchList.{FetchBits}
use Rattle.calls.specs.Calls.{check_of, also_lent, count_lent, unlent}
use Rattle.calls.specs.declared.Lent.{Lent}
use Rattle.refusals.specs.Refusals.{number_of, check_number, count_value, Check}
use Rattle.refusals.specs.declared.Refusal.{Refusal}
use Rattle.refusals.specs.declared.Refusal.TheVariants as refusal
use Rattle.answers.specs.Answers.{recovery_number, recovery_count, reading_number}
use Rattle.answers.specs.declared.Recovery.{Recovery}
use Rattle.answers.specs.declared.Recovery.TheVariants.{Recovered, Crossed, Loose, Refused}
use Rattle.answers.specs.declared.Reading.{Reading}
use Rattle.answers.specs.declared.Reading.TheVariants as reading

-- 01's number of recover's answer: success is 0, crossed 5, loose 6, each in its case and in no other
pub record Numbered (L : Layout) (E v : List ℕ) (number : ℕ) : Type 0 where
  pub success_when : (number ≡ 0) ↔ Single (Agrees L E v)
  pub crossed_when : (number ≡ number_of refusal.Crossed) ↔ None (Agrees L E v)
  pub loose_when : (number ≡ number_of refusal.Loose) ↔ TwoOrMore (Agrees L E v)

-- Demand 3, of a block v with erasures E that passes refusals 1 to 4.
pub record Decides (L : Layout) (E v : List ℕ) (r : Recovery) (v' w' : List ℕ) : Type 0 where
  -- "it is recovered exactly when a single codeword agrees with every unmarked symbol"
  pub recovered_when : (r ≡ Recovered) ↔ Single (Agrees L E v)
  -- "and then to that codeword"; "success: all zeros, count 0"
  pub recovered_to : r ≡ Recovered → Agrees L E v v'
  pub recovered_list : r ≡ Recovered → (w' ≡ replicate (2 * L.t) 0) × (recovery_count r ≡ 0)
  -- "refused as loose exactly when two or more agree"; block kept
  pub loose_when : ((z : ℕ) × (r ≡ Loose z)) ↔ TwoOrMore (Agrees L E v)
  pub loose_keeps : (z : ℕ) → r ≡ Loose z → v' ≡ v
  -- "a ring of marked symbols is shown": "the ring's places, then zeros; the count is z". Of several it is the one whose lowest place is highest.
  pub loose_shows : (z : ℕ) → r ≡ Loose z →
      (l : List ℕ) × Cycle L E l × (recovery_count r ≡ length l) × (w' ≡ padded (2 * L.t) l) × ((k : List ℕ) → Cycle L E k → at k 0 ≤ at l 0)
  -- "refused as crossed exactly when none agrees"; block kept
  pub crossed_when : ((z : ℕ) × (r ≡ Crossed z)) ↔ None (Agrees L E v)
  pub crossed_keeps : (z : ℕ) → r ≡ Crossed z → v' ≡ v
  -- "the rows shown are the joined group that document 01 names", "all its rows rising, then zeros; the count is their number";
  -- "whatever is put at the marked places, one of these rows doesn't sum to 0"
  pub crossed_shows : (z : ℕ) → r ≡ Crossed z →
      (l : List ℕ) × Inconsistent L E (at v) l × (recovery_count r ≡ length l) × (w' ≡ padded (2 * L.t) l)
      × ((x : ℕ → ℕ) → ((c : ℕ) → c ∈ places L → ¬ (c ∈ E) → x c ≡ at v c) → (s : ℕ) × (s ∈ l) × (syndrome L x s ≢ 0))
  -- 1 to 4 are answered in their own cases only
  pub not_refused : (x : Refusal) → r ≢ Refused x
  -- 01's number of the answer
  pub number : Numbered L E v (recovery_number r)

-- what recover is lent
unfoldable pub recover_lent : List ℕ → List ℕ → List ℕ → Lent
recover_lent v m w = record { block = Some (length v); marks = Some (length m); witness = Some (length w); message = unlent }

-- recover: refusals 1 to 4 leave everything as it was; otherwise demand 3. (The marks are only read.)
pub record Recovers (p : Plan) (v m w : List ℕ) (r : Recovery) (v' w' : List ℕ) : Type 0 where
  pub refused : (x : Refusal) → check_of p (recover_lent v m w) m ≡ Err x → (r ≡ Refused x) × (v' ≡ v) × (w' ≡ w)
  pub passed : check_of p (recover_lent v m w) m ≡ Ok tt → Decides (layout_of p) (erasures (layout_of p) m) v r v' w'

-- 01's number of message_of's answer: success is 0
abbrev pub ReadBy : Plan → List ℕ → ℕ → Type 0
ReadBy p v number = (number ≡ 0) ↔ Codeword (layout_of p) v

-- what encode and message_of are lent
unfoldable pub message_lent : List ℕ → List ℕ → Lent
message_lent d v = record { block = Some (length v); marks = unlent; witness = unlent; message = Some (length d) }

-- encode: "Sealing gives the one codeword that carries the data"; document 02, N4: "the check places can always be worked out", so a call that nothing refuses is done
pub record Encodes (p : Plan) (d v : List ℕ) (r : Check) (v' : List ℕ) : Type 0 where
  pub refused : (x : Refusal) → check_of p (message_lent d v) [] ≡ Err x → (r ≡ Err x) × (v' ≡ v)
  pub encoded : check_of p (message_lent d v) [] ≡ Ok tt → r ≡ Ok tt
  pub encoded_to : check_of p (message_lent d v) [] ≡ Ok tt → Carries (layout_of p) v' d
  pub only : check_of p (message_lent d v) [] ≡ Ok tt → (x : List ℕ) → Carries (layout_of p) x d → x ≡ v'
  pub number : check_number r ≡ check_number (check_of p (message_lent d v) [])

-- message_of: "every codeword is carried by one row of data, which reading hands back"; "a block that is no codeword is refused as crossed,
-- with no list, and the data buffer stays"
pub record Reads (p : Plan) (v d : List ℕ) (r : Reading) (d' : List ℕ) : Type 0 where
  pub refused : (x : Refusal) → check_of p (message_lent d v) [] ≡ Err x → (r ≡ reading.Refused x) × (d' ≡ d)
  pub read_when : check_of p (message_lent d v) [] ≡ Ok tt → (r ≡ reading.Read) ↔ Codeword (layout_of p) v
  pub read_to : check_of p (message_lent d v) [] ≡ Ok tt → r ≡ reading.Read → Carries (layout_of p) v d'
  pub crossed_when : check_of p (message_lent d v) [] ≡ Ok tt → (r ≡ reading.Crossed) ↔ (¬ (Codeword (layout_of p) v))
  pub crossed_keeps : r ≡ reading.Crossed → d' ≡ d
  pub not_refused : check_of p (message_lent d v) [] ≡ Ok tt → (x : Refusal) → r ≢ reading.Refused x
  pub number : check_of p (message_lent d v) [] ≡ Ok tt → ReadBy p v (reading_number r)

-- what refuses fetch: the plan, the length of the marks or of the list (each the plan's mark bytes), a spare bit of the marks. What stands in the list as lent is not judged.
unfoldable pub fetch_check : Plan → List ℕ → List ℕ → Check
fetch_check p m l = also_lent (check_of p (count_lent m) m) (eqb (length l) (mark_bytes (layout_of p)))

-- fetch: "The list comes back as mark bits of its own, as long as the marks; a refusal leaves them". (The marks are only read, and no symbol is lent.)
pub record Fetches (p : Plan) (m l : List ℕ) (r : Result ℕ Refusal) (l' : List ℕ) : Type 0 where
  pub refused : (x : Refusal) → fetch_check p m l ≡ Err x → (r ≡ Err x) × (l' ≡ l)
  pub fetched : fetch_check p m l ≡ Ok tt → (z : ℕ) × (r ≡ Ok z)
  pub listed : fetch_check p m l ≡ Ok tt → FetchBits (layout_of p) (erasures (layout_of p) m) (length m) l' (count_value r)
  pub number : check_number r ≡ check_number (fetch_check p m l)
