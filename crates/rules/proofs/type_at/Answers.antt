-- `rules::type_at` meets its contract: the rows still to be looked at have their first bad type where all of them have it.
-- Assumes nothing.
use mathlib.Core.Path.{◌≡◌, sym, ap, ◌∙◌}
use native.Mathlib.Omega.{arith}
use Rattle.rules.specs.Findings.{type_ok}
use Rattle.rules.proofs.Turns.{type-more, type-here}
use Rattle.rules.proofs.type_at.Goals as goal

pub returns-then-not-is_type : goal.returns-then-not-is_type
returns-then-not-is_type c =
    let l = c.loop-i in
    let a = c.args in
    let t = sym (c.is_type.ensures ∙ ap (type_ok l.i) c.get8.ensures) in
    sym (type-here a.rows.now l.i a.next c.loop-i-test.true (t ∙ c.if-not-is_type.true)) ∙ l.invariant.1

pub loop-i-preserved : goal.loop-i-preserved
loop-i-preserved c =
    let l = c.loop-i in
    let a = c.args in
    let t = sym (c.is_type.ensures ∙ ap (type_ok l.i) c.get8.ensures) in
    (omega arith, sym (type-more a.rows.now l.i a.next c.loop-i-test.true (t ∙ c.if-not-is_type.false)) ∙ l.invariant.1)

pub returns : goal.returns
returns c =
    let l = c.loop-i in
    let e : l.i ≡ 32 = omega arith in
    rw e at l.invariant.1
