-- `sums::crossed` meets its contract. Assumes nothing.
use Rattle.std.proofs.Common.{◌∙◌, ap, arith, replicate}
use Rattle.components.specs.Lists.{adds_none}
use Rattle.components.specs.Shows.{shows_balanced, shows_crossed}
use Rattle.components.proofs.sums.crossed.Goals as goal

pub add_up-requires : goal.add_up-requires
add_up-requires c = (adds_none _ _ _ _ (c.fill.ensures.after (λ y e. e) ∙ ap (λ n. replicate n 0) c.requires.total_long), c.requires.parent_long, c.requires.sum_long, c.requires.parent_in)

pub returns-in_err-q : goal.returns-in_err-q
returns-in_err-q c = let f = rw c.add_up.ensures.long at c.in_err-q.ensures in rw c.from_residual.ensures (shows_balanced c.add_up.ensures f (omega arith))

pub gather-requires : goal.gather-requires
gather-requires c = (c.fill-2.ensures.after (λ y e. e) ∙ ap (λ n. replicate n 0) c.requires.witness_long, c.requires.parent_long, omega (arith, c.requires.t_max))

pub returns : goal.returns
returns c = let f = rw c.add_up.ensures.long at c.in_ok-q.ensures in shows_crossed c.add_up.ensures f.0 f.1 c.gather.ensures
