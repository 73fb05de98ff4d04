-- The commands that come by the thousand, 03, 04, 05 and 08, performed without the plan: only the number of its places counts.
-- Main definitions: Quiet, Shows, Quick.
use Rattle.std.specs.Prelude.{is_some, ◌≡◌, true, List, [], ℕ, ◌*◌, ◌≤◌, length}
use Rattle.pieces.specs.Pieces.{Appends}
use Rattle.act.specs.Acts.{Kept, Held, held_plan}
use Rattle.one_sheet.specs.Performed.{Performed}

-- a plan of this many places is held
pub record Places (places : ℕ) (h : Held) (v m : List ℕ) : Type 0 where
  pub planned : is_some h ≡ true
  pub of : (held_plan h).n * (held_plan h).t ≡ places
  pub kept : Kept h v m

-- commands that write nothing
pub record Quiet (places : ℕ) (b v m : List ℕ) (at : ℕ) (v' m' : List ℕ) (at' : ℕ) : Type 0 where
  pub went : (h : Held) → Places places h v m → Performed b h v m at [] h v' m' at' × Places places h v' m'
  pub forwards : at ≤ at'
  pub inside : at' ≤ length b
  pub block_long : length v' ≡ length v
  pub marks_long : length m' ≡ length m

-- commands that show symbols: they change nothing but the sheet
pub record Shows (places : ℕ) (b v : List ℕ) (at : ℕ) (l : List ℕ) (to at' : ℕ) (l' : List ℕ) (to' : ℕ) : Type 0 where
  pub text : List ℕ
  pub went : (h : Held) (m : List ℕ) → Places places h v m → Performed b h v m at text h v m at'
  pub wrote : Appends l to text l' to'
  pub forwards : at ≤ at'
  pub inside : at' ≤ length b
  pub room : to' ≤ length l

-- both
pub record Quick (places : ℕ) (b v m : List ℕ) (at : ℕ) (l : List ℕ) (to : ℕ) (v' m' : List ℕ) (at' : ℕ) (l' : List ℕ) (to' : ℕ) : Type 0 where
  pub text : List ℕ
  pub went : (h : Held) → Places places h v m → Performed b h v m at text h v' m' at' × Places places h v' m'
  pub wrote : Appends l to text l' to'
  pub forwards : at ≤ at'
  pub inside : at' ≤ length b
  pub room : to' ≤ length l
  pub block_long : length v' ≡ length v
  pub marks_long : length m' ≡ length m
