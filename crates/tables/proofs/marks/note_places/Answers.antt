use native.Mathlib.Omega.{arith}
use Rattle.tables.proofs.Spots.{reached_on}
use Rattle.tables.proofs.Counting.{due_inside, due_then, notes_at, notes_then}
use Rattle.tables.proofs.marks.note_places.Goals as goal

pub overflow_cast-place : goal.overflow_cast-place
overflow_cast-place c = omega (arith, due_inside c.loop-d.invariant.2 c.loop-d-test.true, c.loop-d.invariant.2.good.places_max)

pub reach-here-requires : goal.reach-here-requires
reach-here-requires c = (c.loop-d.invariant.2.good, c.loop-d.invariant.4, omega (arith, due_inside c.loop-d.invariant.2 c.loop-d-test.true))

pub loop-d-preserved : goal.loop-d-preserved
loop-d-preserved c = (
  omega (arith, c.loop-d.invariant.0),
  c.stretch-m.ensures.2,
  due_then (omega arith) c.stretch-m.ensures.2 c.loop-d.invariant.2 c.note_stretch.ensures,
  notes_then c.loop-d.invariant.0 (omega arith) c.loop-d.invariant.3 c.note_stretch.ensures,
  reached_on _ (omega arith) c.reach-here.ensures.0,
)

pub returns : goal.returns
returns c = record { notes = notes_at (omega (arith, c.loop-d.invariant.1, c.loop-d-test.false)) c.loop-d.invariant.3; reached_2 = reached_on _ c.loop-d.invariant.1 c.loop-d.invariant.4 }
