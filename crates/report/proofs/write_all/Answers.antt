-- `report::write_all` meets its contract: it can fail only where there are bytes.
-- Assumes nothing.
use Rattle.std.proofs.Common.{arith}
use Rattle.report.proofs.write_all.Goals as goal

pub returns-in_err-n : goal.returns-in_err-n
returns-in_err-n g c = λ h. absurd (omega arith)

pub returns-then-n-eq0 : goal.returns-then-n-eq0
returns-then-n-eq0 g c = λ h. absurd (omega arith)
