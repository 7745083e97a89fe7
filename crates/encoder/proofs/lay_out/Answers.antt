-- `encoder::lay_out` meets its contract: its runs of stores, one behind the other, are one run.
-- Assumes nothing.
use Prim.Native.Nat.{ℕ}
use mathlib.Core.List.{List}
use Rattle.packet.specs.Fields.{in_widths}
use Rattle.encoder.proofs.Laid.{laid_out_lem}
use Rattle.encoder.proofs.lay_out.Goals as goal

pub returns : goal.returns
returns c =
    let a = c.args in
    let n = c.lay_numbers-next.ensures in
    let e : List ℕ = in_widths a.f.count a.ws a.f.numbers in
    rw (c.lay-2.ensures, c.lay.ensures, n.0, n.1, c.put-3.ensures, c.put-2.ensures, c.put.ensures)
    (laid_out_lem a.out.now a.width a.kind a.id a.size e a.rows.now a.rest.now)
