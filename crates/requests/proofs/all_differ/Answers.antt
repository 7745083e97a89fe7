-- `requests::all_differ` meets its contract: the numbers from i on hold the answer (`distinct-not`, `distinct_more`).
-- Assumes nothing.
use Rattle.std.proofs.Common.{◌∙◌, sym, arith}
use Rattle.requests.proofs.Loops.{rest-is, distinct-not, distinct_more, distinct_none}
use Rattle.requests.proofs.all_differ.Goals as goal

pub returns-then-occurs : goal.returns-then-occurs
returns-then-occurs c =
    let l = c.args.ids.now in
    let i = c.loop-i.i in
    sym (c.loop-i.invariant ∙ distinct-not l i (omega arith) (rest-is l _ _ ∙ sym c.occurs.ensures ∙ c.if-occurs.true))

pub loop-i-preserved : goal.loop-i-preserved
loop-i-preserved c =
    let l = c.args.ids.now in
    let i = c.loop-i.i in
    c.loop-i.invariant ∙ distinct_more l i (omega arith) (rest-is l _ _ ∙ sym c.occurs.ensures ∙ c.if-occurs.false)

pub returns : goal.returns
returns c = sym (c.loop-i.invariant ∙ distinct_none c.args.ids.now c.loop-i.i (omega arith))
