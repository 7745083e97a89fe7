-- `decoder::read_kind` meets its contract: a body that does not fit has the number of a wrong size (`WrongSize`), and one that fits
-- is read as the table reads it, so that its packet has the body's number (`Told`).
-- Assumes nothing.
use native.Mathlib.Omega.{arith}
use Rattle.decoder.proofs.Told.{size-refused}
use Rattle.decoder.proofs.WrongSize.{misfits}
use Rattle.decoder.proofs.read_kind.Goals as goal

pub returns-then-n-size : goal.returns-then-n-size
returns-then-n-size c =
    let a = c.args in
    let t = rw (c.fields_size-size.ensures, c.has_rest.ensures, c.shared_set-caps.ensures) at c.if-n-size.true in
    let m = c.wrong_size.ensures in
    size-refused a.l a.h m.0 (misfits a.l a.slot a.h.id a.body.now (omega (arith, c.requires)) m.1 t)
