-- `Requests::trim` meets its contract: the places below i hold the answer (`trimmed-hit`, `trimmed-miss`).
-- Assumes nothing.
use Rattle.std.proofs.Common.{◌≡◌}
use Rattle.requests.specs.Requests.{trimmed}
use Rattle.requests.proofs.Requests.trim.Given as goal

abbrev pub invariant-loop-i : goal.invariant-loop-i
invariant-loop-i l = trimmed l.self.live l.n ≡ trimmed l.self.live l.i
