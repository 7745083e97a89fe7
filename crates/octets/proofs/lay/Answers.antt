-- `octets::lay` meets its contract: the bytes still to be laid, over what has been laid, give what all of them give; those past n have no
-- room.
-- Assumes nothing.
use mathlib.Core.Path.{sym, ◌∙◌}
use Prim.Native.Nat.{◌-◌, ◌≤◌, min}
use native.Mathlib.Omega.{arith}
use lib.ListN.{length}
use Rattle.octets.proofs.Bytes.{lay-none}
use Rattle.octets.proofs.lay.Goals as goal

pub returns : goal.returns
returns c =
    let l = c.loop-i in
    let a = c.args in
    let h : min (length a.src.now) (length l.out - a.at) ≤ l.i = omega arith in
    sym (lay-none l.out a.src.now a.at l.i h) ∙ l.invariant.1
