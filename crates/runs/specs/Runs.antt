-- The runs of a layout: of each section the number of its message places, which are its first places. What the functions over them promise.
use Rattle.std.specs.Prelude.{◌≡◌, List, map, ℕ, ◌*◌, ◌≤◌, ◌<◌, length, get_or}
use Rattle.bounds.specs.Bounds.{max_places}
use Rattle.math.specs.Members.{◌∈◌, up_to}
use Rattle.plan.specs.Layout.{Layout, Valid, message_count}
use Rattle.code.specs.Laws.Forest.{run_of}
use Rattle.code.specs.Laws.ParityCount.{parities, messages}

-- runs are those of L, a layout of n sections of t symbols that all take part
pub record RunsOf (n t : ℕ) (L : Layout) (runs : List ℕ) : Type 0 where
  pub n_is : L.n ≡ n
  pub t_is : L.t ≡ t
  pub valid : Valid L
  pub all : L.sections ≡ up_to n
  pub some : 0 < n
  pub small : n * t ≤ max_places
  pub long : n ≤ length runs
  pub exact : (j : ℕ) → get_or runs j 0 ≡ run_of L j

-- the runs of some layout
pub record Runs (n t : ℕ) (runs : List ℕ) : Type 0 where
  pub L : Layout
  pub of : RunsOf n t L runs

-- the same, with a block and a message of its lengths
pub record Lent (n t : ℕ) (runs block message : List ℕ) : Type 0 where
  pub L : Layout
  pub of : RunsOf n t L runs
  pub block_long : length block ≡ n * t
  pub message_long : length message ≡ message_count L

-- the first k sections are runs from end to end
pub record Full (n t : ℕ) (runs : List ℕ) (k : ℕ) : Type 0 where
  pub most : k ≤ n
  pub whole : (i : ℕ) → i < k → get_or runs i 0 ≡ t

-- the message stands at the message places, 0 at the parity places
pub record Spread (L : Layout) (message block : List ℕ) : Type 0 where
  pub whole : length block ≡ L.n * L.t
  pub carried : map (λ c. get_or block c 0) (messages L) ≡ message
  pub blank : (c : ℕ) → c ∈ parities L → get_or block c 0 ≡ 0
