-- `requests::occurs` meets its contract: it is found so far, or the numbers from i on hold it (`exists-from`).
-- Assumes nothing.
use Rattle.std.proofs.Common.{◌∙◌, sym, ap, arith, ◌||◌}
use Rattle.scan.specs.Loop.{exists-none}
use Rattle.requests.specs.Requests.{same}
use Rattle.requests.proofs.Loops.{exists-from, or-or, or-none}
use Rattle.requests.proofs.occurs.Goals as goal

pub loop-i-preserved : goal.loop-i-preserved
loop-i-preserved c =
    let l = c.args.ids.now in
    let i = c.loop-i.i in
    c.loop-i.invariant ∙ ap (λ b. c.loop-i.found || b) (exists-from c.args.n l i (omega arith)) ∙ or-or c.loop-i.found _ _

pub returns : goal.returns
returns c =
    let l = c.args.ids.now in
    sym (c.loop-i.invariant ∙ ap (λ b. c.loop-i.found || b) (exists-none (same c.args.n) l c.loop-i.i (omega arith)) ∙ or-none c.loop-i.found)
