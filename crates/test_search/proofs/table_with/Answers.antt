-- `test_search::table_with` meets its contract: what the ids from i on add to the table so far is the whole table.
-- Assumes nothing.
use Rattle.std.proofs.Common.{sym, ◌∙◌, arith}
use Rattle.test_search.proofs.Turns.{fill-goes-on, fill_done}
use Rattle.test_search.proofs.table_with.Goals as goal

pub loop-i-preserved : goal.loop-i-preserved
loop-i-preserved c =
    let k = c.loop-i in
    rw c.take.ensures (fill-goes-on k.t _ k.i (omega arith) ∙ k.invariant)

pub returns : goal.returns
returns c = sym (fill_done _ _ _ (omega arith)) ∙ c.loop-i.invariant
