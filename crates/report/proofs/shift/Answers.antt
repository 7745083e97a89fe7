-- `report::shift` meets its contract: what is copied to the front is stored there (`shifted`).
-- Assumes nothing.
use Rattle.report.proofs.Buffers.{shifted}
use Rattle.report.proofs.shift.Goals as goal

pub returns : goal.returns
returns c = shifted c.args.s.now c.args.start c.args.n c.requires c.copy_within.ensures.after
