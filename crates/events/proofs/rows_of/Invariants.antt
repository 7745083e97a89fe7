-- `events::rows_of` meets its contract: after i steps the first i rows are the table's and the others as at the start (`filled`).
-- Assumes nothing.
use mathlib.Core.Path.{◌≡◌}
use Rattle.events.proofs.TableRows.{filled, told}
use Rattle.events.proofs.rows_of.Given as goal

abbrev pub invariant-loop-i : goal.invariant-loop-i
invariant-loop-i l = l.out ≡ filled (told l.t l.body "type") (told l.t l.body "interface") l.i
