-- `tables::marks::note_word` meets its contract: a full word is noted in stretches, another one place by place.
use native.Mathlib.Omega.{arith}
use Rattle.tables.proofs.Stretches.{ones_due, ones_noted}
use Rattle.tables.proofs.marks.note_word.Goals as goal

pub note_places-requires : goal.note_places-requires
note_places-requires c = record { due = (ones_due c.requires.lent.0 c.requires.scanned c.word_from-word.ensures c.if-word.true, omega arith); reached = c.requires.reached }

pub returns-then-word : goal.returns-then-word
returns-then-word c = record { scanned_2 = ones_noted c.requires.lent.0 c.requires.scanned c.word_from-word.ensures c.if-word.true c.note_places.ensures.notes; reached_2 = c.note_places.ensures.reached_2 }
