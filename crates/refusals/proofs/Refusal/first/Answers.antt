-- `Refusal::first` meets its contract. Assumes nothing.
use Rattle.refusals.proofs.RefusalLaws.{first_left, first_right}
use Rattle.refusals.proofs.Refusal.first.Goals as goal

pub returns-then-rank : goal.returns-then-rank
returns-then-rank c = let a = c.args in first_left a.self a.other c.rank.ensures c.rank-2.ensures c.if-rank.true

pub returns-else-rank : goal.returns-else-rank
returns-else-rank c = let a = c.args in first_right a.self a.other c.rank.ensures c.rank-2.ensures c.if-rank.false
