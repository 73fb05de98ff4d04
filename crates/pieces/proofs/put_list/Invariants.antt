-- `put_list` meets its contract. The invariant: the entries so far are put, in at most 6 bytes each.
use Rattle.std.proofs.Common.{◌+◌, ◌*◌, ◌≤◌, take}
use Rattle.pieces.specs.Pieces.{fields, Appends}
use Rattle.pieces.proofs.put_list.Given as goal

abbrev pub invariant-loop-n : goal.invariant-loop-n
invariant-loop-n l = record {
  short : l.to ≤ l.at + 6 * l.n-index;
  put : Appends l.initial.line l.at (fields (take l.n-index l.list)) l.line l.to;
}
