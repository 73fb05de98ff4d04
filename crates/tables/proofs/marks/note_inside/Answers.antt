use native.Mathlib.Omega.{arith}
use Rattle.tables.proofs.Counting.{due_here, noted_here}
use Rattle.tables.proofs.WordWalk.{walk_start, walk_bit, walk_reached, walk_done}
use Rattle.tables.proofs.Scan.{scanned_skips, noting_due, noting_more}
use Rattle.tables.proofs.marks.note_inside.Goals as goal

pub loop-rest-init : goal.loop-rest-init
loop-rest-init c = walk_start scanned_skips c.requires.scanned c.requires.reached.0 (omega (arith, c.requires.lent.2)) c.requires.lent.3

pub note-requires : goal.note-requires
note-requires c = due_here (noting_due c.loop-rest.invariant c.loop-rest-test.true c.requires.lent.0) (omega arith) (walk_reached c.loop-rest.invariant c.loop-rest-test.true) (omega (arith, c.requires.reached.1, walk_bit c.loop-rest.invariant c.loop-rest-test.true))

pub loop-rest-preserved : goal.loop-rest-preserved
loop-rest-preserved c = noting_more c.loop-rest.invariant c.loop-rest-test.true c.requires.lent.0 (noted_here c.requires.lent.0.good (walk_reached c.loop-rest.invariant c.loop-rest-test.true) (omega (arith, c.requires.reached.1, walk_bit c.loop-rest.invariant c.loop-rest-test.true)) c.note.ensures) (walk_reached c.loop-rest.invariant c.loop-rest-test.true)

pub returns : goal.returns
returns c = walk_done c.loop-rest.invariant scanned_skips c.loop-rest-test.false
