-- The run is kept going until it is closed or full.
use Rattle.putting.specs.PutLaws.{phase_number}
use lib.ListN.{length}
use Rattle.sheet.specs.Running.{Running}
use Rattle.one_sheet.specs.Begins.{left}
use Rattle.sheet.proofs.run_all.Given as goal

abbrev pub invariant-loop-here : goal.invariant-loop-here
invariant-loop-here l = Running l.job l.initial.sheet l.here.held l.block l.marks l.line l.here.at l.here.to l.sheet l.here.phase

abbrev pub decreases-loop-here : goal.decreases-loop-here
decreases-loop-here l = left (phase_number l.here.phase) l.here.at (length l.job)
