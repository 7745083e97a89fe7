-- `Requests::trim` meets its contract: the places below i hold the answer (`trimmed-hit`, `trimmed-miss`).
-- Assumes nothing.
use mathlib.Core.Path.{ap, sym, ◌∙◌}
use native.Mathlib.Omega.{arith}
use Rattle.requests.specs.Requests.{trimmed}
use Rattle.requests.proofs.Loops.{trimmed-hit, trimmed-miss, trimmed-none}
use Rattle.requests.proofs.Requests.trim.Goals as goal

pub returns-then-self-i : goal.returns-then-self-i
returns-then-self-i c =
    let k = c.loop-i in
    let l = c.args.self.now.live in
    sym (ap (trimmed l) (sym c.bound-n.ensures.0) ∙ k.invariant ∙ trimmed-hit l k.i (omega arith) c.if-self-i.true)

pub loop-i-preserved : goal.loop-i-preserved
loop-i-preserved c = c.loop-i.invariant ∙ trimmed-miss _ _ (omega arith) c.if-self-i.false

pub returns : goal.returns
returns c =
    let k = c.loop-i in
    let l = c.args.self.now.live in
    sym (ap (trimmed l) (sym c.bound-n.ensures.0) ∙ k.invariant ∙ ap (trimmed l) (omega arith) ∙ trimmed-none l)
