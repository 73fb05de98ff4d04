-- `tables::sweep::sweep` meets its contract: two parts of the table, w added to each.
use Rattle.std.proofs.Common.{refl, length}
use Rattle.tables.specs.Sweeps.{Apart, swept_lent}
use Rattle.tables.proofs.sweep.sweep.Goals as goal

pub returns : goal.returns
returns c =
    let apart : Apart c.from-a.result c.from-b.result c.args.m (length c.args.tally.now) = rw (c.from-a.ensures, c.from-b.ensures) c.requires.0 in
    rw (← c.from-a.ensures, ← c.from-b.ensures) (swept_lent _ _ _ _ apart refl c.raise.ensures refl c.raise-2.ensures)
