-- `Rows::replace` meets its contract: after all rows the streams are those of the new rows.
-- Assumes nothing.
use Rattle.std.proofs.Common.{ap, rules, eqb}
use Rattle.device.specs.declared.Rows.{Rows}
use Rattle.device.specs.Device.{row_at, with_streams, replaced}
use Rattle.device.proofs.RowFunctions.{kept_none, kept_more, kept-all}
use Rattle.device.proofs.Rows.replace.Goals as goal

pub loop-row-init : goal.loop-row-init
loop-row-init c = kept_none _ _

pub loop-row-preserved : goal.loop-row-preserved
loop-row-preserved c =
    let row = c.loop-row.row in
    kept_more _ _ _ _ (search rules) c.loop-row.invariant _ (search rules) (ap (λ (d : Rows). eqb (row_at d row).ty (row_at c.args.new row).ty) c.loop-row.invariant)

pub returns : goal.returns
unfolding replaced
returns c = ap (λ (d : Rows). with_streams c.args.new d.streams) (kept-all _ _ _ _ (search rules) c.loop-row.invariant (search rules) (search rules))
