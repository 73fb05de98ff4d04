-- What the numbers of fumizhaki_recover, fumizhaki_encode, fumizhaki_message_of and fumizhaki_fetch say, and what each leaves: the words of include/fumizhaki.h, with no answer
-- in between. That the entries' promises say this is in Theorems.antt. Last, what it is for a number to stand for nothing.
use Rattle.figures.specs.declared.Four.{Four}
use Rattle.std.specs.Prelude.{◌≡◌, ◌↔◌, ◌≢◌, List, [], ◌∷◌, ℕ, ◌*◌, ◌≤◌, ◌<◌, length, replicate, Result, Ok, Err}
use Rattle.math.specs.Members.{◌∈◌}
use Rattle.math.specs.Padded.{padded}
use Rattle.plan.specs.Plans.{layout_of}
use Rattle.plan.specs.declared.Plan.{Plan}
use Rattle.code.specs.Places.{places}
use Rattle.code.specs.Codewords.{at, syndrome, Codeword, Agrees, Single, TwoOrMore, None}
use Rattle.code.specs.Marks.{erasures}
use Rattle.code.specs.Cycles.{Cycle}
use Rattle.code.specs.Components.{Inconsistent}
use Rattle.code.specs.Messages.{Carries}
use Rattle.code.specs.FetchList.{FetchBits}
use Rattle.refusals.specs.Refusals.{number_of, check_number, Check}
use Rattle.calls.specs.Calls.{check_of}
use Rattle.refusals.specs.declared.Refusal.{Refusal}
use Rattle.promises.specs.Promises.{recover_lent, message_lent, fetch_check}
use Rattle.answers.specs.Answers.{recovery_number, reading_number}
use Rattle.answers.specs.declared.Recovery.{Recovery}
use Rattle.answers.specs.declared.Reading.{Reading}
use Rattle.figures.specs.Answers.{said_by}

-- a codeword equals the block at every unmarked place
abbrev pub AgreesWith : Plan → List ℕ → List ℕ → List ℕ → Type 0
AgreesWith p v m = Agrees (layout_of p) (erasures (layout_of p) m) v

pub record RecoverMeans (p : Plan) (v m w : List ℕ) (number count : ℕ) (v' w' : List ℕ) : Type 0 where
  pub numbers : number ∈ (0 ∷ 1 ∷ 2 ∷ 3 ∷ 4 ∷ 5 ∷ 6 ∷ [])
  -- 1 to 4: what refuses the call; block and witness kept, count 0
  pub refused_when : (x : Refusal) → number_of x < 5 → (number ≡ number_of x) ↔ (check_of p (recover_lent v m w) m ≡ Err x)
  pub refused_leaves : (x : Refusal) → number_of x < 5 → number ≡ number_of x → (count ≡ 0) × (v' ≡ v) × (w' ≡ w)
  -- 0: exactly one codeword agrees, and the block is that codeword; the witness list is all zeros, the count 0
  pub zero_when : (number ≡ 0) ↔ ((check_of p (recover_lent v m w) m ≡ Ok tt) × Single (AgreesWith p v m))
  pub zero_leaves : number ≡ 0 → (count ≡ 0) × AgreesWith p v m v' × (w' ≡ replicate (2 * p.t) 0)
  -- 5: none agrees; the block is kept; the rows of the component that does not add up to 0 and has the lowest row, then zeros; the count is their number;
  -- whatever is put at the marked places, one of these rows does not add up to 0
  pub five_when : (number ≡ 5) ↔ ((check_of p (recover_lent v m w) m ≡ Ok tt) × None (AgreesWith p v m))
  pub five_leaves : number ≡ 5 → (v' ≡ v)
      × ((l : List ℕ) × Inconsistent (layout_of p) (erasures (layout_of p) m) (at v) l × (count ≡ length l) × (w' ≡ padded (2 * p.t) l)
      × ((x : ℕ → ℕ) → ((c : ℕ) → c ∈ places (layout_of p) → ¬ (c ∈ erasures (layout_of p) m) → x c ≡ at v c)
      → (s : ℕ) × (s ∈ l) × (syndrome (layout_of p) x s ≢ 0)))
  -- 6: two or more agree; the block is kept; the cycle of marked places whose lowest place is highest, then zeros; the count is its length
  pub six_when : (number ≡ 6) ↔ ((check_of p (recover_lent v m w) m ≡ Ok tt) × TwoOrMore (AgreesWith p v m))
  pub six_leaves : number ≡ 6 → (v' ≡ v)
      × ((l : List ℕ) × Cycle (layout_of p) (erasures (layout_of p) m) l × (count ≡ length l) × (w' ≡ padded (2 * p.t) l)
      × ((k : List ℕ) → Cycle (layout_of p) (erasures (layout_of p) m) k → at k 0 ≤ at l 0))

pub record EncodeMeans (p : Plan) (d v : List ℕ) (number : ℕ) (v' : List ℕ) : Type 0 where
  pub numbers : number ∈ (0 ∷ 1 ∷ 2 ∷ 3 ∷ [])
  -- 1 to 3: what refuses the call
  pub refused_when : (x : Refusal) → (number ≡ number_of x) ↔ (check_of p (message_lent d v) [] ≡ Err x)
  -- 0: nothing refuses it; the block is the one codeword that carries the message
  pub zero_when : (number ≡ 0) ↔ (check_of p (message_lent d v) [] ≡ Ok tt)
  pub zero_leaves : number ≡ 0 → Carries (layout_of p) v' d × ((x : List ℕ) → Carries (layout_of p) x d → x ≡ v')
  -- every number but 0 keeps the block
  pub else_keeps : number ≢ 0 → v' ≡ v

pub record MessageMeans (p : Plan) (v d : List ℕ) (number : ℕ) (d' : List ℕ) : Type 0 where
  pub numbers : number ∈ (0 ∷ 1 ∷ 2 ∷ 3 ∷ 5 ∷ [])
  -- 1 to 3: what refuses the call
  pub refused_when : (x : Refusal) → number_of x < 5 → (number ≡ number_of x) ↔ (check_of p (message_lent d v) [] ≡ Err x)
  -- 0: the block is a codeword, and the message buffer has the message that it carries
  pub zero_when : (number ≡ 0) ↔ ((check_of p (message_lent d v) [] ≡ Ok tt) × Codeword (layout_of p) v)
  pub zero_leaves : number ≡ 0 → Carries (layout_of p) v d'
  -- 5: it is no codeword
  pub five_when : (number ≡ 5) ↔ ((check_of p (message_lent d v) [] ≡ Ok tt) × (¬ (Codeword (layout_of p) v)))
  -- every number but 0 keeps the message buffer
  pub else_keeps : number ≢ 0 → d' ≡ d

pub record FetchMeans (p : Plan) (m l : List ℕ) (number count : ℕ) (l' : List ℕ) : Type 0 where
  pub numbers : number ∈ (0 ∷ 1 ∷ 2 ∷ 3 ∷ 4 ∷ [])
  -- 1 to 4: what refuses the call; the list kept, count 0
  pub refused_when : (x : Refusal) → number_of x < 5 → (number ≡ number_of x) ↔ (fetch_check p m l ≡ Err x)
  pub refused_leaves : (x : Refusal) → number_of x < 5 → number ≡ number_of x → (count ≡ 0) × (l' ≡ l)
  -- 0: nothing refuses it; the list's bits are the fetch list of the marked places, the count is their number
  pub zero_when : (number ≡ 0) ↔ (fetch_check p m l ≡ Ok tt)
  pub zero_leaves : number ≡ 0 → FetchBits (layout_of p) (erasures (layout_of p) m) (length m) l' count

-- a number that no refusal has, and no answer of the library; a job's turns and what is asked for in parts are not among these (turn_not_eleven, ask_not_eleven)
pub record Unused (number : ℕ) : Type 0 where
  pub refusal : (x : Refusal) → number_of x ≢ number
  pub check : (k : Check) → check_number k ≢ number
  pub made : (a : Result Plan Refusal) → check_number a ≢ number
  pub recovery : (a : Recovery) → recovery_number a ≢ number
  pub reading : (a : Reading) → reading_number a ≢ number
  pub count : (a : Result ℕ Refusal) → check_number a ≢ number
  pub figures : (a : Result Four Refusal) → (said_by a).number ≢ number
