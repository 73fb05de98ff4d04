-- What refuses a lent state (01, "What is turned away").
-- Main definitions: buffers_fit, state_check, held_check.
use Rattle.std.specs.Prelude.{is_some, Bool, cond, ◌&&◌, List, ℕ, eqb, length}
use Rattle.refusals.specs.Refusals.{Check}
use Rattle.calls.specs.Calls.{lent_check, call_check}
use Rattle.lines.specs.Lines.{line_length}
use Rattle.act.specs.Acts.{block_length, marks_length, Held, held_plan}

-- the three buffers have their lengths
unfoldable pub buffers_fit : List ℕ → List ℕ → List ℕ → Bool
buffers_fit v m l = eqb (length v) block_length && eqb (length m) marks_length && eqb (length l) line_length

-- what refuses a lent state is what refuses a call: 1 and 2 by the plan, then 3, then 4. With no plan there are no places, and so no spare bits.
-- `fits`: every lent buffer has its length
unfoldable pub state_check : Held → Bool → List ℕ → Check
state_check h fits m = cond (is_some h) (call_check (held_plan h) fits m) (lent_check 0 fits m)

unfoldable pub held_check : Held → List ℕ → List ℕ → List ℕ → Check
unfolding buffers_fit state_check
held_check h v m l = state_check h (buffers_fit v m l) m
