-- `decoder::read` meets its contract: the steps of the code before the body are those of `read_of`, and behind them the body is read (`Told`).
-- Assumes nothing.
use Rattle.std.proofs.lemmas.Result.{err_from_is_err_and}
use Rattle.decoder.proofs.Told.{short-refused, header_refused_lem, length-refused, body-read}
use Rattle.decoder.proofs.read.Goals as goal

pub returns-then-bytes-h : goal.returns-then-bytes-h
returns-then-bytes-h c =
    let x = c.args in
    short-refused x.l x.bytes.now c.read_header-h.ensures c.if-bytes-h.true

pub returns-in_err-check_header : goal.returns-in_err-check_header
returns-in_err-check_header c =
    let x = c.args in
    let e = err_from_is_err_and c.from_residual.result c.from_residual.ensures.1 in
    rw (e.1, e.2) (header_refused_lem x.l x.bytes.now c.read_header-h.ensures c.if-bytes-h.false _ c.in_err-check_header.ensures)

pub returns-then-bytes-h-2 : goal.returns-then-bytes-h-2
returns-then-bytes-h-2 c =
    let x = c.args in
    length-refused x.l x.bytes.now c.read_header-h.ensures c.if-bytes-h.false c.in_ok-check_header.ensures c.if-bytes-h-2.true

pub returns : goal.returns
returns c =
    let x = c.args in
    body-read x.l x.bytes.now c.read_header-h.ensures c.if-bytes-h.false c.in_ok-check_header.ensures c.read_behind.result c.if-bytes-h-2.false c.read_behind.ensures
