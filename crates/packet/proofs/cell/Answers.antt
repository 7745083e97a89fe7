-- `packet::cell` meets its contract: a number that is there is read where it stands, any other is 0.
-- Assumes nothing.
use Prim.Native.Nat.{ℕ, ◌+◌, ◌*◌, min}
use mathlib.Core.Path.{◌≡◌, ap, ◌∙◌}
use native.Mathlib.Omega.{arith}
use Rattle.octets.specs.Little.{le}
use Rattle.packet.proofs.Rows.{cell-there, cell-short, cell-past, one_more}
use Rattle.packet.specs.Rows.{cell_at}
use Rattle.packet.proofs.cell.Goals as goal
use Rattle.packet.proofs.cell.Goals.{else-i-lt32-via-then-i-lt32+else-at-w, else-i-lt32-via-else-i-lt32}

pub returns-then-at-w : goal.returns-then-at-w
returns-then-at-w c =
    let a = c.args in
    let r = a.rows.now in
    let e : min a.w 8 ≡ a.w = omega arith in (
      c.get.ensures.0 ∙ ap (λ (n : ℕ). le n r (a.at + a.i * a.w)) e ∙ cell-there r a.at a.w a.i c.if-i-lt32.true c.if-at-w.true,
      rw e at c.get.ensures.1,
    )

pub returns : goal.returns
returns c =
    let a = c.args in
    let zero : 0 ≡ cell_at a.rows.now a.at a.w a.i =
    elim c.else-i-lt32.branch [
      | else-i-lt32-via-then-i-lt32+else-at-w w ↦ cell-short a.rows.now a.at a.w a.i w.if-at-w.false (omega arith)
      | else-i-lt32-via-else-i-lt32 w ↦ cell-past a.rows.now a.at a.w a.i w.if-i-lt32.false
    ] in
    (zero, one_more a.w)
