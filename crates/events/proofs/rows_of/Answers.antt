-- `events::rows_of` meets its contract: after i steps the first i rows are the table's and the others as at the start (`filled`).
-- Assumes nothing.
use Rattle.std.proofs.Common.{◌<◌, ◌∙◌, arith, rules}
use Rattle.packet.specs.Rows.{endpoint_row}
use Rattle.events.proofs.TableRows.{filled_none, filled_more, filled-all}
use Rattle.events.proofs.rows_of.Goals as goal

pub loop-i-init : goal.loop-i-init
loop-i-init c = c.start_rows-out.ensures ∙ filled_none _ _

pub loop-i-preserved : goal.loop-i-preserved
unfolding endpoint_row
loop-i-preserved c =
    let e = c.endpoint_row-r.ensures in
    let i : c.loop-i.i < 32 = search rules in
    filled_more _ _ _ _ c.loop-i.invariant _ _ i (λ j. (e j).ty) (λ j. (e j).interface)

pub returns : goal.returns
returns c = filled-all _ _ _ _ c.loop-i.invariant (omega arith)
