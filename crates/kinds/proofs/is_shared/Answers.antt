-- `kinds::is_shared` meets its contract: the bit that is needed, or none, is the table's.
-- Assumes nothing.
use Rattle.kinds.proofs.Columns.{need-shared}
use Rattle.kinds.proofs.is_shared.Goals as goal

pub returns-in-None : goal.returns-in-None
returns-in-None c = rw (← need-shared c.args.slot c.args.caps, ← c.in-None.ensures)

pub returns-in-Some : goal.returns-in-Some
returns-in-Some c = rw (← need-shared c.args.slot c.args.caps, ← c.in-Some.ensures) c.has_bit.ensures
