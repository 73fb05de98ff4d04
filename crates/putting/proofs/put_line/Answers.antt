-- The line is copied behind the sheet so far, if it fits.
use mathlib.Core.Path.{refl, sym}
use native.Mathlib.Omega.{arith}
use lib.Seq.{length-take-le}
use Rattle.putting.specs.PutLaws.{put_full, put_long}
use Rattle.putting.proofs.put_line.Goals as goal

pub overflow_sub-sheet : goal.overflow_sub-sheet
overflow_sub-sheet c = omega (arith, c.requires)

pub returns-then-sheet-to : goal.returns-then-sheet-to
returns-then-sheet-to c = (refl, refl, put_full _ _ c.args.sheet.now c.args.to _ c.requires.1 c.if-sheet-to.true)

pub slice_bounds-copy_from_slice-end : goal.slice_bounds-copy_from_slice-end
slice_bounds-copy_from_slice-end c = omega (arith, c.requires, c.if-sheet-to.false)

pub slice_bounds-copy_from_slice-end-2 : goal.slice_bounds-copy_from_slice-end-2
slice_bounds-copy_from_slice-end-2 c = sym (length-take-le c.args.count c.args.line.now c.requires.0)

pub copy_from_slice-requires : goal.copy_from_slice-requires
copy_from_slice-requires c = let a = c.args in sym (put_long a.line.now a.count a.sheet.now a.to c.requires.0 (omega (arith, c.requires, c.if-sheet-to.false)))
