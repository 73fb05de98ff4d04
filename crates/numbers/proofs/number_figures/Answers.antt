-- `number_figures` meets its contract: the answer's figures, or zeros beside its refusal. Assumes nothing.
use Rattle.numbers.specs.EntryLaws.{figures_done, figures_refused}
use Rattle.numbers.proofs.number_figures.Goals as goal

pub returns-in-Ok : goal.returns-in-Ok
returns-in-Ok c = figures_done _ _ (rw c.in-Ok.is at c.figures.ensures)

pub returns-in-Err : goal.returns-in-Err
returns-in-Err c =
    rw c.number.ensures
    (figures_refused _ _ (rw c.in-Err.is at c.figures.ensures))
