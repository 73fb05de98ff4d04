-- By whether the buffers fit.
use mathlib.Core.Path.{◌∙◌, ap}
use Rattle.stream.specs.Streams.{stream_check}
use Rattle.standing.specs.Standing.{state_check}
use borrow.Author.Rules.{rules}
use Rattle.streaming.proofs.check_stream.Goals as goal

pub buffers_fit-fits-requires : goal.buffers_fit-fits-requires
buffers_fit-fits-requires c = search rules

pub check_state-requires : goal.check_state-requires
check_state-requires c = search rules

pub returns : goal.returns
unfolding stream_check
returns c = c.check_state.ensures ∙ ap (λ b. state_check c.args.stream.held b c.args.marks.now) c.buffers_fit-fits.ensures
