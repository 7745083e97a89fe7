-- `test_search::test_search` meets its contract: the searches still to be made, from the present id, end where all of
-- them end.
-- Assumes nothing.
use Rattle.std.proofs.Common.{◌≡◌, ◌-◌}
use Rattle.test_search.specs.Search.{table_with, searched}
use Rattle.test_search.proofs.test_search.Given as goal

abbrev pub invariant-loop : goal.invariant-loop
invariant-loop l = searched l.t l.next (l.n - l.counter) l.id ≡ searched (table_with l.ids) l.next l.n l.first
