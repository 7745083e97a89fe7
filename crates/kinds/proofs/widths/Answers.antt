-- `kinds::widths` meets its contract: past the table there is no kind.
-- Assumes nothing.
use native.Mathlib.Omega.{arith}
use Rattle.kinds.proofs.Columns.{past}
use Rattle.kinds.proofs.widths.Goals as goal

pub returns-in-33-to-max : goal.returns-in-33-to-max
returns-in-33-to-max c = rw (past c.args.slot (grind arith))
