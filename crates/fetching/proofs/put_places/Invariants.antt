-- `put_places` meets its contract. The invariant: the places below c are put. Assumes nothing.
use Rattle.code.specs.Laws.MarksLaws.{places_of}
use Rattle.pieces.specs.Pieces.{fields, Appends}
use Rattle.fetching.proofs.put_places.Given as goal

abbrev pub invariant-loop-c : goal.invariant-loop-c
invariant-loop-c l = Appends l.initial.line l.at (fields (places_of l.list 0 l.c)) l.line l.to
