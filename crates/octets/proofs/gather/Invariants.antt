-- `octets::gather` meets its contract: from the last byte to the first, what has been read is `le` of the bytes passed.
-- Assumes nothing.
use Rattle.std.proofs.Common.{◌≡◌, ◌-◌, min}
use Rattle.octets.specs.Little.{le}
use Rattle.octets.proofs.gather.Given as goal

abbrev pub invariant-loop-i : goal.invariant-loop-i
invariant-loop-i l = l.x ≡ le (min l.n 8 - l.i) l.bytes l.i
