-- What perform does: the tests of the lent state, then a turn (01, "The job and its sheet"; "What is turned away").
-- Main definition: Performs.
use Rattle.std.specs.Prelude.{◌≡◌, Bool, List, ℕ, Ok, Err}
use Rattle.refusals.specs.declared.Refusal.{Refusal}
use Rattle.act.specs.Acts.{Held}
use Rattle.standing.specs.Standing.{held_check}
use Rattle.turns.specs.Turns.{Same, Turns}
use Rattle.turns.specs.declared.Turn.{Turn}
use Rattle.turns.specs.declared.Turn.TheVariants.{Bad}

-- perform: what refuses the lent state leaves everything as it was; otherwise a turn
pub record Performs (h : Held) (v m l b : List ℕ) (last : Bool) (offset : ℕ) (turn : Turn) (h' : Held) (v' m' l' : List ℕ) : Type 0 where
  pub bad : (x : Refusal) → held_check h v m l ≡ Err x → (turn ≡ Bad x) × Same h v m h' v' m' × (l' ≡ l)
  pub passed : held_check h v m l ≡ Ok tt → Turns h v m l b last offset turn h' v' m' l'
