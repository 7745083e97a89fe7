-- `transcript::report_line` meets its contract: by what the line decodes to.
-- Assumes nothing.
use native.Mathlib.Omega.{arith}
use Rattle.transcript.proofs.Lines.{line-bad, line-good}
use Rattle.transcript.proofs.report_line.Goals as goal

pub returns-in-Err : goal.returns-in-Err
returns-in-Err c =
    let a = c.args in
    line-bad (record { session = a.s; totals = a.t; guest = a.guest.now; host = a.host.now }) a.line.now a.out.now c.decode_line.ensures c.in-Err.is c.form_bad.ensures

pub returns-in-Ok : goal.returns-in-Ok
returns-in-Ok c =
    let a = c.args in
    line-good (record { session = a.s; totals = a.t; guest = a.guest.now; host = a.host.now }) a.line.now a.out.now c.decode_line.ensures (omega arith) c.in-Ok.is c.part.ensures c.report_from-reported.ensures
