-- What each command means on a state and writes (01, "The job and its sheet"; document 02 for 0D).
use Rattle.std.specs.Prelude.{◌≡◌, List, [], ◌∷◌, map, ℕ, length, set, take, replicate}
use Rattle.plan.specs.Plans.{with_shift, plan_in, layout_of, blank_of, straight_of, powers_of, ruler_of}
use Rattle.code.specs.Codewords.{at}
use Rattle.code.specs.Marks.{mark_bytes, erasures}
use Rattle.code.specs.Messages.{Message, Lists, Carries}
use Rattle.code.specs.FetchList.{FetchList}
use Rattle.code.specs.Figures as code
use Rattle.promises.specs.Promises.{Decides}
use Rattle.answers.specs.declared.Recovery.{Recovery}
use Rattle.answers.specs.declared.Recovery.TheVariants as recovery
use Rattle.lines.specs.Lines.{line, recovered_word, loose_word, crossed_word, sealed_word, symbol_word, figures_word, fetch_word}
use Rattle.commands.specs.declared.Command.{Command}
use Rattle.commands.specs.declared.Command.TheVariants.{NewPlan, SetShift, SetSymbol, MarkOne, MarkRun, Recover, Seal, Show, Figures, Straight, Powers, Ruler, Fetch}
use Rattle.state.specs.State.{State, fresh, with_plan, with_block}
use Rattle.bits.specs.Bits.{Marked}

-- what recovery writes and leaves: "`recovered` and the count of marks; `loose` or `crossed`, count, list"; "success clears the marks"
pub record Recovering (s s' : State) (text : List ℕ) : Type 0 where
  pub answer : Recovery
  pub block : List ℕ
  pub list : List ℕ
  pub decides : Decides (layout_of s.plan) (erasures (layout_of s.plan) s.marks) s.block answer block list
  pub recovered : answer ≡ recovery.Recovered →
      (text ≡ line recovered_word (length (erasures (layout_of s.plan) s.marks) ∷ []))
      × (s' ≡ with_block s block (replicate (mark_bytes (layout_of s.plan)) 0))
  pub loose : (z : ℕ) → answer ≡ recovery.Loose z → (text ≡ line loose_word (z ∷ take z list)) × (s' ≡ s)
  pub crossed : (z : ℕ) → answer ≡ recovery.Crossed z → (text ≡ line crossed_word (z ∷ take z list)) × (s' ≡ s)

-- "seal: the symbols at data places are the data, check places are overwritten, marks cleared"; "`sealed` and the data count"
pub record Sealing (s s' : State) (text : List ℕ) : Type 0 where
  pub places : List ℕ
  pub message_places : Lists (Message (layout_of s.plan)) places
  pub block : List ℕ
  pub carries : Carries (layout_of s.plan) block (map (at s.block) places)
  pub state : s' ≡ with_block s block (replicate (mark_bytes (layout_of s.plan)) 0)
  pub says : text ≡ line sealed_word (length places ∷ [])

-- "`figures` and the four in the order above"
pub record Figuring (s s' : State) (text : List ℕ) : Type 0 where
  pub parity : ℕ
  pub pair : ℕ
  pub neighbour : ℕ
  pub distance : ℕ
  pub figures : code.Figures (layout_of s.plan) parity pair neighbour distance
  pub state : s' ≡ s
  pub says : text ≡ line figures_word (parity ∷ pair ∷ neighbour ∷ distance ∷ [])

-- Document 02, N2: "Job command 0D prints `fetch`, the count and the list"; "the marks stay"
pub record Listing (s s' : State) (text : List ℕ) : Type 0 where
  pub list : List ℕ
  pub fetch : FetchList (layout_of s.plan) (erasures (layout_of s.plan) s.marks) list
  pub stays : s' ≡ s
  pub says : text ≡ line fetch_word (length list ∷ list)

-- "03 c v symbol, its mark cleared"; "04 c mark, the symbol kept"; "05 c m mark m places from c"
pub record Marking (s s' : State) (v : List ℕ) (c k b : ℕ) : Type 0 where
  pub marks : List ℕ
  pub marked : Marked s.marks c k b marks
  pub state : s' ≡ with_block s v marks

-- what a command that is not refused means: the state after it and what it writes
unfoldable pub Means : Command → State → State → List ℕ → Type 0
Means (NewPlan n t) s s' text = (s' ≡ fresh (plan_in (blank_of n t))) × (text ≡ [])
Means (SetShift j p) s s' text = (s' ≡ with_plan s (with_shift s.plan j p)) × (text ≡ [])
Means (SetSymbol c v) s s' text = Marking s s' (set s.block c v) c 1 0 × (text ≡ [])
Means (MarkOne c) s s' text = Marking s s' s.block c 1 1 × (text ≡ [])
Means (MarkRun c m) s s' text = Marking s s' s.block c m 1 × (text ≡ [])
Means Recover s s' text = Recovering s s' text
Means Seal s s' text = Sealing s s' text
Means (Show c) s s' text = (s' ≡ s) × (text ≡ line symbol_word (c ∷ at s.block c ∷ []))
Means Figures s s' text = Figuring s s' text
Means (Straight n t) s s' text = (s' ≡ fresh (plan_in (straight_of n t))) × (text ≡ [])
Means (Powers n t q) s s' text = (s' ≡ fresh (plan_in (powers_of n t q))) × (text ≡ [])
Means (Ruler n) s s' text = (s' ≡ fresh (plan_in (ruler_of n))) × (text ≡ [])
Means Fetch s s' text = Listing s s' text
