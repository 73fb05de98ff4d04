-- The course is kept going until something is wanted.
use Rattle.stream.proofs.CourseLaws.{halt_number}
use lib.ListN.{length}
use Rattle.stream.specs.Course.{Course}
use Rattle.one_sheet.specs.Begins.{left}
use Rattle.streaming.proofs.progress.perform_all.Given as goal

abbrev pub invariant-loop-here : goal.invariant-loop-here
invariant-loop-here l = Course l.bytes l.last l.offset l.initial.here.held l.initial.block l.initial.marks 0 l.initial.sheet l.filled l.here.held l.block l.marks l.here.at l.sheet l.here.to l.here.halt

abbrev pub decreases-loop-here : goal.decreases-loop-here
decreases-loop-here l = left (halt_number l.here.halt) l.here.at (length l.bytes)
