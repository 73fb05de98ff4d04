use Rattle.std.proofs.Common.{sym, ◌∙◌}
use Rattle.components.specs.Lists.{gathers_none, gathers_in, gathers_out}
use Rattle.components.proofs.sums.gather.Goals as goal
use Rattle.components.proofs.sums.gather.Goals.{then-row_at-q, else-row_at-q}

pub loop-s-init : goal.loop-s-init
loop-s-init c = gathers_none _ _ _ _ c.requires.0

pub loop-s-preserved : goal.loop-s-preserved
loop-s-preserved c =
    elim c.if-row_at-q.branch [
      | then-row_at-q w ↦ rw (w.witness-is, w.z-is, w.put_row.ensures) (gathers_in c.loop-s.invariant c.loop-s-test.true (sym c.row_at.ensures ∙ w.if-row_at-q.true))
      | else-row_at-q w ↦ rw (w.witness-is, w.z-is) (gathers_out c.loop-s.invariant (λ e. w.if-row_at-q.false (c.row_at.ensures ∙ e)))
    ]
