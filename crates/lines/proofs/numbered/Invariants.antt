-- `numbered` meets its contract: the word and the numbers so far stand in the line, in at most 21 bytes for each number. Assumes nothing.
use Rattle.std.proofs.Common.{◌+◌, ◌*◌, ◌≤◌, length, take}
use Rattle.lines.proofs.LinesLaws.{Begun}
use Rattle.lines.proofs.numbered.Given as goal

abbrev pub invariant-loop-n : goal.invariant-loop-n
invariant-loop-n l = record {
  short : l.to ≤ l.at + length l.word + 21 * l.n-index;
  put : Begun l.fn.line l.at l.word (take l.n-index l.numbers) l.line l.to;
}
