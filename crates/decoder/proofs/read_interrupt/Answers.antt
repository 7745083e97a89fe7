-- `decoder::read_interrupt` meets its contract: a body that has its fields is read as the table reads it (`WithData`), so that its packet has the body's
-- number (`Told`).
-- Assumes nothing.
use mathlib.Core.Path.{refl}
use lib.Dec.{lit<}
use Rattle.std.proofs.lemmas.Result.{err_from_is_err_and}
use Rattle.kinds.specs.Table.{kinds}
use Rattle.decoder.proofs.Told.{packet-refused, packet-read}
use Rattle.decoder.proofs.WithData.{interrupt}
use Rattle.decoder.proofs.read_interrupt.Goals as goal

pub check_fields-requires : goal.check_fields-requires
unfolding kinds
check_fields-requires c = (lit< tt, refl)

pub returns-in_err-check_interrupt : goal.returns-in_err-check_interrupt
returns-in_err-check_interrupt c =
    let a = c.args in
    let e = err_from_is_err_and c.from_residual-in_err-check_interrupt.result c.from_residual-in_err-check_interrupt.ensures.1 in
    rw (e.1, e.2)
    (packet-refused a.l a.h (rw (c.after.ensures, c.get16.ensures, c.get8-2.ensures, c.get8.ensures) (interrupt _ _ c.in_ok-check_fields.ensures)) c.in_err-check_interrupt.ensures)

pub returns : goal.returns
returns c =
    let a = c.args in
    packet-read a.l a.h (rw (c.after.ensures, c.get16.ensures, c.get8-2.ensures, c.get8.ensures) (interrupt _ _ c.in_ok-check_fields.ensures)) c.in_ok-check_interrupt.ensures
