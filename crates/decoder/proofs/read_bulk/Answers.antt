-- `decoder::read_bulk` meets its contract: a body that has its fields is read as the table reads it (`WithData`), so that its packet has the body's
-- number (`Told`).
-- Assumes nothing.
use lib.Dec.{lit<}
use Rattle.std.proofs.lemmas.Result.{err_from_is_err_and}
use Rattle.decoder.proofs.Told.{packet-refused, packet-read}
use Rattle.decoder.proofs.WithData.{bulk, size-bulk}
use Rattle.decoder.proofs.read_bulk.Goals as goal

pub check_fields-requires : goal.check_fields-requires
check_fields-requires c = (lit< tt, rw (c.bulk_fields-fields.ensures, c.shared_set-caps.ensures) (size-bulk _))

pub returns-in_err-check_bulk : goal.returns-in_err-check_bulk
returns-in_err-check_bulk c =
    let a = c.args in
    let k = c.bulk_fields-fields.ensures in
    let s = c.shared_set-caps.ensures in
    let e = err_from_is_err_and c.from_residual-in_err-check_bulk.result c.from_residual-in_err-check_bulk.ensures.1 in
    rw (e.1, e.2)
    (packet-refused a.l a.h
    (rw (c.after.ensures, c.get32.ensures, c.bulk_count.ensures.0, c.get8-2.ensures, c.get8.ensures, k, s)
    (bulk _ _ c.bulk_count.ensures.1 (rw (k, s) at c.in_ok-check_fields.ensures)))
    c.in_err-check_bulk.ensures)

pub returns : goal.returns
returns c =
    let a = c.args in
    let k = c.bulk_fields-fields.ensures in
    let s = c.shared_set-caps.ensures in
    packet-read a.l a.h
    (rw (c.after.ensures, c.get32.ensures, c.bulk_count.ensures.0, c.get8-2.ensures, c.get8.ensures, k, s)
    (bulk _ _ c.bulk_count.ensures.1 (rw (k, s) at c.in_ok-check_fields.ensures)))
    c.in_ok-check_bulk.ensures
