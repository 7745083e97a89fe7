-- `requests::all_differ` meets its contract: the numbers from i on hold the answer (`distinct-not`, `distinct_more`).
-- Assumes nothing.
use Rattle.std.proofs.Common.{◌≡◌, drop}
use Rattle.requests.specs.Requests.{distinct}
use Rattle.requests.proofs.all_differ.Given as goal

abbrev pub invariant-loop-i : goal.invariant-loop-i
invariant-loop-i l = distinct l.ids ≡ distinct (drop l.i l.ids)
