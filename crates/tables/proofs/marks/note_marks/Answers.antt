use Prim.Native.Nat.{◌*◌, ◌/◌}
use native.Mathlib.Omega.{arith}
use Rattle.tables.proofs.Spots.{reached_on}
use Rattle.tables.proofs.Scan.{scanned_at, scanned_clear, scanned_end, scanned_first, scanned_start, words_end}
use Rattle.tables.proofs.marks.note_marks.Goals as goal

pub loop-i-init : goal.loop-i-init
loop-i-init c = (omega (arith, c.from.ensures, c.pass_zeros-i.ensures.0.order), reached_on _ (omega arith) c.start-at.ensures, scanned_clear c.pass_zeros-i.ensures.0 (scanned_first (8 * (c.from.result / 64 * 8)) (omega (arith, c.from.ensures)) (scanned_start c.args.marks.now c.args.first.0 c.requires.tally_value)))

pub loop-i-preserved : goal.loop-i-preserved
loop-i-preserved c = (omega (arith, c.loop-i.invariant.0, c.pass_zeros-i-in-loop-i.ensures.0.order), reached_on _ (omega (arith, c.pass_zeros-i-in-loop-i.ensures.0.order)) c.note_word-at.ensures.reached_2, scanned_clear c.pass_zeros-i-in-loop-i.ensures.0 (scanned_at (omega arith) c.note_word-at.ensures.scanned_2))

pub returns : goal.returns
returns c = scanned_end c.requires.lent c.loop-i.invariant.2 (words_end c.requires.lent c.loop-i.i c.loop-i-test.false)
