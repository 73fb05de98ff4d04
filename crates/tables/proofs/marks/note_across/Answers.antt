use native.Mathlib.Omega.{arith}
use Rattle.tables.proofs.WordWalk.{walk_start, walk_reached, walk_done, walk_section}
use Rattle.tables.proofs.Scan.{scanned_skips, noting_due, noting_more}
use Rattle.tables.proofs.marks.note_across.Goals as goal

pub loop-rest-init : goal.loop-rest-init
loop-rest-init c = walk_start scanned_skips c.requires.scanned c.requires.reached (omega (arith, c.requires.lent.2)) c.requires.lent.3

pub note_next-here-requires : goal.note_next-here-requires
note_next-here-requires c = record { due = noting_due c.loop-rest.invariant c.loop-rest-test.true c.requires.lent.0; reached = walk_reached c.loop-rest.invariant c.loop-rest-test.true }

pub loop-rest-preserved : goal.loop-rest-preserved
loop-rest-preserved c = noting_more c.loop-rest.invariant c.loop-rest-test.true c.requires.lent.0 c.note_next-here.ensures.notes c.note_next-here.ensures.reached_2

pub returns : goal.returns
returns c = record { scanned_2 = walk_done c.loop-rest.invariant scanned_skips c.loop-rest-test.false; reached_2 = walk_section c.loop-rest.invariant }
