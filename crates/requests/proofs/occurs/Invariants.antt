-- `requests::occurs` meets its contract: it is found so far, or the numbers from i on hold it.
-- Assumes nothing.
use Rattle.std.proofs.Common.{◌≡◌, ◌||◌, drop}
use Rattle.scan.specs.Scan.{exists}
use Rattle.requests.specs.Requests.{same}
use Rattle.requests.proofs.occurs.Given as goal

abbrev pub invariant-loop-i : goal.invariant-loop-i
invariant-loop-i l = exists (same l.n) l.ids ≡ (l.found || exists (same l.n) (drop l.i l.ids))
