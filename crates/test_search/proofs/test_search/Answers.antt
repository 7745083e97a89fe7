-- `test_search::test_search` meets its contract: the searches still to be made, from the present id, end where all of
-- them end.
-- Assumes nothing.
use Rattle.std.proofs.Common.{sym, ◌∙◌, arith}
use Rattle.test_search.proofs.Turns.{search-goes-on, search-done}
use Rattle.test_search.proofs.test_search.Goals as goal

pub loop-preserved : goal.loop-preserved
loop-preserved c =
    let k = c.loop in
    rw (c.next_id-id.ensures, c.find_id.ensures) (search-goes-on c.table_with-t.result _ _ k.counter k.id (omega arith) ∙ k.invariant)

pub returns : goal.returns
returns c = sym (search-done _ _ _ _ _ c.loop-test.false) ∙ c.loop.invariant
