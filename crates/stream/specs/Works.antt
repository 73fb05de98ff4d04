-- What the library does with a job that is read in parts.
-- Main definitions: below, last_below, Went, Advances, Works.
use Rattle.std.specs.Prelude.{◌≡◌, ◌⊎◌, ◌≢◌, Bool, false, ◌&&◌, List, [], ◌++◌, ℕ, ◌+◌, ◌-◌, ◌≤◌, ◌<◌, leb, length, take, drop, Ok, Err}
use Rattle.refusals.specs.declared.Refusal.{Refusal}
use Rattle.pieces.specs.Pieces.{Appends}
use Rattle.lines.specs.Lines.{line_length}
use Rattle.act.specs.Acts.{state_of, Kept}
use Rattle.reading.specs.Cursors.{hand, top_offset}
use Rattle.one_sheet.specs.Performed.{Performed}
use Rattle.stream.specs.Course.{Waits, Closes}
use Rattle.stream.specs.Streams.{stream_check, ask_of, tidy, tidy_input}
use Rattle.stream.specs.declared.Stream.{Stream}
use Rattle.stream.specs.declared.Phase.TheVariants.{Going, Closed, Past, Lost}
use Rattle.stream.specs.declared.Ask.{Ask}
use Rattle.stream.specs.declared.Ask.TheVariants as ask

-- the bytes that stand below the highest offset, of those from an offset on; and whether they are the last ones
abbrev pub below : ℕ → List ℕ → List ℕ
below o b = take (top_offset - o) b

abbrev pub last_below : Bool → ℕ → List ℕ → Bool
last_below last o b = last && leb (length b) (top_offset - o)

-- The first `used` of the bytes at hand were commands; they were performed one after another and wrote `text`. `said` is the line that closes the job, where it is closed.
-- Both stand on the sheet behind what waited there; what stands past them is kept, and so is what stands past the state in block and marks, as Acts says of each command.
pub record Went (s : Stream) (v m l i : List ℕ) (s' : Stream) (v' m' l' : List ℕ) : Type 0 where
  pub used : ℕ
  pub text : List ℕ
  pub said : List ℕ
  pub performed : Performed (hand s.cursor i) s.held v m 0 text s'.held v' m' used
  pub wrote : Appends l s.filled (text ++ said) l' s'.filled
  pub room : s'.filled ≤ length l
  pub kept : Kept s'.held v' m'
  pub at : s'.cursor.at ≡ s.cursor.at + used
  pub end : s'.cursor.end ≡ s.cursor.end
  pub offset : s'.cursor.offset ≡ s.cursor.offset + used
  pub inside : used ≤ length (hand s.cursor i)
  pub last : s'.last ≡ s.last
  -- it stops where more may come and no command is left whole, or where the longest line does not fit
  pub going : s'.phase ≡ Going → (said ≡ [])
      × (((s.last ≡ false) × (length (drop used (hand s.cursor i)) ≤ top_offset - s'.cursor.offset) × Waits (drop used (hand s.cursor i))) ⊎ (length l < s'.filled + line_length))
  -- the job is closed by what stands below the highest offset
  pub closed : s'.phase ≡ Closed →
      Closes (last_below s.last s'.cursor.offset (drop used (hand s.cursor i))) s'.cursor.offset (state_of s'.held v' m') (below s'.cursor.offset (drop used (hand s.cursor i))) said
  -- of the bytes at hand some stand at the highest offset or past it, and of those below it no command is left whole
  pub past : s'.phase ≡ Past → (said ≡ []) × (top_offset - s'.cursor.offset < length (drop used (hand s.cursor i)))
      × Waits (below s'.cursor.offset (drop used (hand s.cursor i)))
  pub not_lost : s'.phase ≢ Lost

-- a job that goes on goes further; one that does not stays as it is
pub record Advances (s : Stream) (v m l i : List ℕ) (s' : Stream) (v' m' l' : List ℕ) : Type 0 where
  pub goes : s.phase ≡ Going → Went s v m l i s' v' m' l'
  pub over : s.phase ≢ Going → (s' ≡ s) × (v' ≡ v) × (m' ≡ m) × (l' ≡ l)

-- work: what refuses the lent state leaves everything as it was; otherwise the job goes on, and then the answer is what is wanted
pub record Works (s : Stream) (v m l i : List ℕ) (a : Ask) (s' : Stream) (v' m' l' i' : List ℕ) : Type 0 where
  pub bad : (x : Refusal) → stream_check s v m l i ≡ Err x → (a ≡ ask.Bad x) × (s' ≡ s) × (v' ≡ v) × (m' ≡ m) × (l' ≡ l) × (i' ≡ i)
  pub passed : stream_check s v m l i ≡ Ok tt →
      (t : Stream) × Advances s v m l i t v' m' l' × (a ≡ ask_of t) × (s' ≡ tidy t i) × (i' ≡ tidy_input t i)
