-- `encoder::lay_numbers` meets its contract: each turn lays one number behind those before it.
-- Assumes nothing.
use native.Mathlib.Omega.{arith}
use mathlib.Core.Path.{◌≡◌, ap, ◌∙◌}
use lib.ListN.{length}
use lib.Seq.{length-sets}
use Rattle.encoder.proofs.Laid.{lay-on, length-on}
use borrow.Author.Rules.{rules}
use Rattle.encoder.proofs.lay_numbers.Goals as goal

pub loop-i-preserved : goal.loop-i-preserved
loop-i-preserved c =
    let l = c.loop-i in
    let a = c.args in
    let hw : length a.ws ≡ 7 = search rules in
    let hx : length a.xs ≡ 7 = search rules in
    let p = c.put.ensures in (
      omega arith,
      omega arith,
      simp length-sets at (ap length p) ∙ l.invariant.2,
      rw p (lay-on _ l.next a.n l.i a.ws a.xs (omega arith) (omega (arith, hw)) (omega (arith, hx))) ∙ l.invariant.3,
      (length-on l.next a.n l.i a.ws a.xs (omega arith) (omega (arith, hw)) (omega (arith, hx))) ∙ l.invariant.4,
    )
