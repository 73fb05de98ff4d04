-- `bit` meets its contract. Assumes nothing.
use mathlib.Core.Path.{ap}
use Rattle.code.specs.Codewords.{bit_of}
use Rattle.code.specs.Marks.{mark}
use Rattle.bits.proofs.marks.bit.Goals as goal

pub returns : goal.returns
unfolding mark bit_of
returns c = ap (mark c.args.marks.now) c.from-place.ensures
