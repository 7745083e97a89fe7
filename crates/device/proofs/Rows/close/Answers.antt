-- `Rows::close` meets its contract: after all rows the streams of those that the scope does not touch are as they were.
-- Assumes nothing.
use Rattle.std.proofs.Common.{sym, ap, ◌∙◌, rules, not}
use Rattle.device.specs.declared.Rows.{Rows}
use Rattle.device.specs.Device.{row_at, touches, closed}
use Rattle.device.proofs.RowFunctions.{kept_none, kept_more, kept-all, closed-by}
use Rattle.device.proofs.Rows.close.Goals as goal

pub loop-row-init : goal.loop-row-init
loop-row-init c = kept_none _ _

pub loop-row-preserved : goal.loop-row-preserved
loop-row-preserved c =
    let row = c.loop-row.row in
    kept_more _ _ _ _ (search rules) c.loop-row.invariant _ (search rules) (ap not c.touches.ensures ∙ ap (λ (d : Rows). not (touches c.args.s row (row_at d row).interface)) c.loop-row.invariant)

pub returns-in-NoRow : goal.returns-in-NoRow
unfolding closed
returns-in-NoRow c = ap (closed _) (sym c.in-NoRow.is)

pub returns-in-EveryRow : goal.returns-in-EveryRow
unfolding closed
returns-in-EveryRow c = ap (closed _) (sym c.in-EveryRow.is)

pub returns-after-loop-row : goal.returns-after-loop-row
returns-after-loop-row c = kept-all _ _ _ _ (search rules) c.loop-row.invariant (search rules) (search rules) ∙ closed-by _ _ _ c.in-OfInterface.is
