-- `divisors::neighbour_of` meets its contract. Assumes nothing.
use Rattle.divisors.specs.DivisorsLaws.{next_neighbour, no_neighbour, around_neighbour}
use Rattle.divisors.proofs.neighbour_of.Goals as goal

pub returns-then-next-n : goal.returns-then-next-n
returns-then-next-n c = next_neighbour c.if-next-n.true

pub returns-then-n-lt3 : goal.returns-then-n-lt3
returns-then-n-lt3 c = no_neighbour c.if-next-n.false c.if-n-lt3.true

pub returns : goal.returns
returns c = around_neighbour c.requires c.if-next-n.false c.if-n-lt3.false
