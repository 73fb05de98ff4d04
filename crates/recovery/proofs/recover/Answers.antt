-- A call that is refused leaves everything as it was; one that passes is decided.
use mathlib.Core.Path.{sym, ◌∙◌}
use Rattle.promises.specs.Promises.{recover_lent}
use Rattle.promises.proofs.Building.{recovers_refused}
use Rattle.deciding.specs.Attempts.{call_given, call_decided}
use Rattle.recovery.proofs.recover.Goals as goal

pub decide-requires : goal.decide-requires
unfolding recover_lent
decide-requires c = call_given _ _ _ _ (sym c.check_call.ensures ∙ c.in-Ok.is)

pub returns-in-Err : goal.returns-in-Err
unfolding recover_lent
returns-in-Err c = recovers_refused _ _ _ _ (sym c.check_call.ensures ∙ c.in-Err.is)

pub shape_of-block : goal.shape_of-block
shape_of-block c = c.decide.auto.block

pub shape_of-witness : goal.shape_of-witness
shape_of-witness c = c.decide.auto.witness

pub returns-in-Ok : goal.returns-in-Ok
unfolding recover_lent
returns-in-Ok c = call_decided _ _ _ _ (sym c.check_call.ensures ∙ c.in-Ok.is) c.decide.ensures
