-- `capture::lay_spelt` meets its contract: the bytes still to be spelt, over what has been laid, give what all of them give.
-- Assumes nothing.
use mathlib.Core.Path.{◌≡◌, sym, ap, ◌∙◌}
use Prim.Native.Nat.{ℕ, ◌%◌}
use native.Mathlib.Omega.{arith}
use lib.ListN.{set}
use Rattle.capture.proofs.Spelling.{spelt-ends, spelt-step}
use Rattle.capture.proofs.lay_spelt.Goals as goal

pub loop-i-preserved : goal.loop-i-preserved
loop-i-preserved c =
    let l = c.loop-i in
    let r = c.hex_pair in
    let e : r.result % 256 ≡ r.result = omega arith in
    let st = c.put.ensures ∙ ap (λ (x : ℕ). set l.out l.i x) e in
    rw st (sym (spelt-step l.out c.args.s.now l.i r.result (omega arith) r.ensures) ∙ l.invariant)

pub returns : goal.returns
returns c = rw (spelt-ends c.args.s.now c.loop-i.i (omega arith)) at c.loop-i.invariant
