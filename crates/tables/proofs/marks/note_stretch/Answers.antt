-- `tables::marks::note_stretch` meets its contract: the sweeps note the places one after the other.
use Rattle.tables.proofs.Stretches.{stretch_ready, run_notes}
use Rattle.tables.proofs.marks.note_stretch.Goals as goal

pub note_run-requires : goal.note_run-requires
note_run-requires c = rw c.from.ensures (record { ready = stretch_ready c.requires.due.0 c.requires.reached.0 c.requires.reached.1 c.requires.due.1; stretch = (c.requires.reached.1, c.requires.due.1) })

pub returns : goal.returns
returns c = run_notes c.requires.due.0 c.requires.reached.0 c.requires.reached.1 c.requires.due.1 (rw c.from.ensures at c.note_run.ensures)
