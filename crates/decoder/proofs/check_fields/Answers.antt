-- `decoder::check_fields` meets its contract: a body that lacks a field has the number of a wrong size (`WrongSize`).
-- Assumes nothing.
use Rattle.decoder.proofs.Told.{size-refused}
use Rattle.decoder.proofs.WrongSize.{lacks}
use Rattle.decoder.proofs.check_fields.Goals as goal

pub returns-then-body-fields : goal.returns-then-body-fields
returns-then-body-fields c =
    let a = c.args in
    let m = c.wrong_size.ensures in
    size-refused a.l a.h m.0 (lacks a.l a.slot a.h.id a.body.now c.requires.0 m.1 (rw c.requires.1 at c.if-body-fields.true))
