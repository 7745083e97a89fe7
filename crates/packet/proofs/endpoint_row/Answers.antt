-- `packet::endpoint_row` meets its contract: each column stands behind those before it that are there.
-- Assumes nothing.
use Prim.Native.Nat.{ℕ}
use mathlib.Core.Path.{ap, ◌∙◌}
use Rattle.packet.specs.Packet.{in_part, rows_in}
use Rattle.packet.proofs.Rows.{endpoint-cells}
use Rattle.packet.proofs.endpoint_row.Goals as goal

pub returns : goal.returns
returns c =
    let a = c.args in
    let e = c.rows_in-s.ensures ∙ ap (λ (n : ℕ). rows_in n (in_part a.t.rows a.body.now)) c.table_size.ensures in
    rw (
      c.then_some-2.ensures,
      c.cell-2.ensures.0,
      c.then_some.ensures,
      c.cell.ensures.0,
      c.cell8-3.ensures,
      c.cell8-2.ensures,
      c.cell8.ensures,
      c.table_size-at.ensures,
      e,
    )
    (endpoint-cells a.t a.body.now a.row.0)
