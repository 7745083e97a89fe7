-- `report::State::print_totals` meets its contract: the totals have room behind the output that is not written yet.
-- Assumes nothing.
use Rattle.std.proofs.Common.{sym, arith}
use lib.Seq.{length-take-le}
use Rattle.report.proofs.Buffers.{totals-room}
use Rattle.report.proofs.State.print_totals.Goals as goal

pub overflow_add-self : goal.overflow_add-self
overflow_add-self c = omega (arith, totals-room c.args.self.now c.form_totals-n.result c.requires.0 c.form_totals-n.ensures.size)

pub slice_bounds-write_all-end : goal.slice_bounds-write_all-end
slice_bounds-write_all-end c =
    omega (arith, totals-room c.args.self.now c.form_totals-n.result c.requires.0 c.form_totals-n.ensures.size, c.form_totals-n.auto.out, c.requires.1)

pub slice_bounds-write_all-end-2 : goal.slice_bounds-write_all-end-2
slice_bounds-write_all-end-2 c =
    sym (length-take-le _ _ (omega (arith, totals-room c.args.self.now c.form_totals-n.result c.requires.0 c.form_totals-n.ensures.size, c.form_totals-n.auto.out, c.requires.1)))
