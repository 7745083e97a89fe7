-- `test_search::table_with` meets its contract: what the ids from i on add to the table so far is the whole table.
-- Assumes nothing.
use Rattle.std.proofs.Common.{◌≡◌, drop}
use Rattle.test_search.specs.Search.{with_ids, table_with}
use Rattle.test_search.proofs.table_with.Given as goal

abbrev pub invariant-loop-i : goal.invariant-loop-i
invariant-loop-i l = with_ids l.t l.i (drop l.i l.ids) ≡ table_with l.ids
