-- Commands of a job performed one after another.
-- Main definition: Performed.
use Rattle.std.specs.Prelude.{◌≡◌, List, [], ◌++◌, ℕ, ◌+◌, get_or, drop, Ok}
use Rattle.commands.specs.Commands.{size_of, parsed}
use Rattle.commands.specs.declared.Command.{Command}
use Rattle.commands.specs.declared.Parsed.TheVariants.{Whole}
use Rattle.state.specs.Refusing.{refusal_of}
use Rattle.act.specs.Acts.{state_of, Acts, Held}

-- The commands of the bytes b from one index up to another, none of them refused, were performed one after another, each as Acts says of one:
-- they lead from one plan, block and marks to others, and this is what they write.
pub data Performed : List ℕ → Held → List ℕ → List ℕ → ℕ → List ℕ → Held → List ℕ → List ℕ → ℕ → Type 0 where
  none : {b : List ℕ} {h : Held} {v m : List ℕ} {at : ℕ} → Performed b h v m at [] h v m at
  first : {b : List ℕ} {h : Held} {v m : List ℕ} {at : ℕ} {h' : Held} {v' m' : List ℕ} {at' : ℕ} (c : Command) (text rest : List ℕ) (g : Held) (w k : List ℕ) →
      parsed (drop at b) ≡ Whole c → refusal_of (state_of h v m) c ≡ Ok tt → Acts c h v m text g w k →
      Performed b g w k (at + size_of (get_or (drop at b) 0 0)) rest h' v' m' at' → Performed b h v m at (text ++ rest) h' v' m' at'
