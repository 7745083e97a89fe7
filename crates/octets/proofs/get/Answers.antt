-- `octets::get` meets its contract: the bytes that were taken out spell what they spell in their place.
-- Assumes nothing.
use native.Mathlib.Omega.{arith}
use Rattle.octets.proofs.Bytes.{le-taken}
use Rattle.octets.proofs.get.Goals as goal

pub returns : goal.returns
returns c =
    let e = le-taken c.args.s.now c.args.at 8 c.in-Some.ensures in
    rw c.if-n-eq8.true (omega (arith, c.from_le_bytes.ensures, e), omega arith)
