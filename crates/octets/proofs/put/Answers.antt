-- `octets::put` meets its contract: the bytes still to be laid, over what has been laid, give what all of them give.
-- Assumes nothing.
use mathlib.Core.Path.{sym, ◌∙◌}
use lib.Bits.{and_mask}
use Rattle.octets.proofs.Bytes.{bytes-step}
use Rattle.octets.proofs.put.Goals as goal

pub loop-i-preserved : goal.loop-i-preserved
loop-i-preserved c =
    let l = c.loop-i in
    let a = c.args in
    rw (c.store_after.ensures, and_mask l.y 8) (sym (bytes-step l.out a.at a.n l.i l.y c.loop-i-test.true) ∙ l.invariant)
