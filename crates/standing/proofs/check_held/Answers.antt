-- By whether the buffers fit.
use mathlib.Core.Path.{◌∙◌, ap}
use Rattle.standing.specs.Standing.{state_check, held_check}
use Rattle.standing.proofs.check_held.Goals as goal

pub returns : goal.returns
unfolding held_check
returns c = c.check_state.ensures ∙ ap (λ b. state_check c.args.held b c.args.marks.now) c.buffers_fit-fits.ensures
