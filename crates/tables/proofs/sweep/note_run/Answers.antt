-- `tables::sweep::note_run` meets its contract: the tallies are swept for the top rows and for the bottom rows.
use Rattle.tables.proofs.Stretches.{run_apart, run_room}
use Rattle.tables.proofs.sweep.note_run.Goals as goal

pub sweep-requires : goal.sweep-requires
sweep-requires c = (run_apart c.requires.ready c.requires.stretch.0 c.requires.stretch.1 c.top-high.ensures c.bottom-low.ensures c.requires.ready.long, run_room c.requires.ready c.requires.stretch.0 c.weight-w.ensures)
