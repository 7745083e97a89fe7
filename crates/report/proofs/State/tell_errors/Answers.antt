-- `report::State::tell_errors` meets its contract: what is said has room in the buffer.
-- Assumes nothing.
use Rattle.std.proofs.Common.{sym, arith}
use lib.Seq.{length-take-le}
use Rattle.capture.proofs.LineLaws.{errors-short}
use Rattle.report.proofs.State.tell_errors.Goals as goal

pub slice_bounds-write_all-end : goal.slice_bounds-write_all-end
slice_bounds-write_all-end c =
    let p = c.args.self.now in
    omega (arith, c.form_errors-n.ensures.size, errors-short p.lines p.flaw p.cut c.args.lost, c.form_errors-n.auto.out, c.requires)

pub slice_bounds-write_all-end-2 : goal.slice_bounds-write_all-end-2
slice_bounds-write_all-end-2 c =
    let p = c.args.self.now in
    sym (length-take-le _ _ (omega (arith, c.form_errors-n.ensures.size, errors-short p.lines p.flaw p.cut c.args.lost, c.form_errors-n.auto.out, c.requires)))
