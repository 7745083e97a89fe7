-- `decoder::read_data` meets its contract: kinds 100 to 104 stand at slots 28 to 32 (`kinds/specs/Slots`), and a body of a known kind is read by it
-- (`Told`).
-- Assumes nothing.
use mathlib.Core.Path.{◌≡◌, sym, ◌∙◌}
use native.Mathlib.Omega.{arith}
use lib.Dec.{lit<, lit≤}
use Rattle.kinds.specs.Slots.{high}
use Rattle.decoder.proofs.Told.{behind-known}
use Rattle.decoder.proofs.read_data.Goals as goal

pub returns-in-100 : goal.returns-in-100
returns-in-100 c =
    let a = c.args in
    behind-known a.l a.h a.body.now c.read_control.result (lit< tt) (high 100 (lit≤ tt) (lit≤ tt) ∙ sym c.in-100.is) c.read_control.ensures

pub returns-in-101 : goal.returns-in-101
returns-in-101 c =
    let a = c.args in
    behind-known a.l a.h a.body.now c.read_bulk.result (lit< tt) (high 101 (lit≤ tt) (lit≤ tt) ∙ sym c.in-101.is) c.read_bulk.ensures

pub returns-in-102 : goal.returns-in-102
returns-in-102 c =
    let a = c.args in
    behind-known a.l a.h a.body.now c.read_iso.result (lit< tt) (high 102 (lit≤ tt) (lit≤ tt) ∙ sym c.in-102.is) c.read_iso.ensures

pub returns-in-103 : goal.returns-in-103
returns-in-103 c =
    let a = c.args in
    behind-known a.l a.h a.body.now c.read_interrupt.result (lit< tt) (high 103 (lit≤ tt) (lit≤ tt) ∙ sym c.in-103.is) c.read_interrupt.ensures

pub returns-in_default : goal.returns-in_default
returns-in_default c =
    let a = c.args in
    let e : 104 ≡ a.h.kind = omega arith in
    behind-known a.l a.h a.body.now c.read_buffered.result (lit< tt) (high 104 (lit≤ tt) (lit≤ tt) ∙ e) c.read_buffered.ensures
