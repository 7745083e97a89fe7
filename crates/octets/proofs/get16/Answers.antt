-- `octets::get16` meets its contract: the bytes that were taken out spell what they spell in their place.
-- Assumes nothing.
use native.Mathlib.Omega.{arith}
use Rattle.octets.proofs.Bytes.{le-taken}
use Rattle.octets.proofs.get16.Goals as goal

pub returns-in-Some : goal.returns-in-Some
returns-in-Some c = omega (arith, c.from_le_bytes.ensures, le-taken c.args.s.now c.args.at 2 c.in-Some.ensures)
