-- `packet::interface_row` meets its contract: each column stands 32 bytes behind the one before it.
-- Assumes nothing.
use Rattle.packet.proofs.Rows.{interface-cells}
use Rattle.packet.proofs.interface_row.Goals as goal

pub returns : goal.returns
returns c =
    let a = c.args in
    rw (
      c.cell8-4.ensures,
      c.cell8-3.ensures,
      c.cell8-2.ensures,
      c.cell8.ensures,
      c.rows_in-s.ensures,
    )
    (interface-cells a.t a.body.now a.i)
