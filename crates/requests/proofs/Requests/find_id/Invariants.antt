-- `Requests::find_id` meets its contract: no place below i is live and has the id (`search-hit`, `search-none`).
-- Assumes nothing.
use Rattle.std.proofs.Common.{◌≡◌, ℕ, ◌<◌, get_or, false, ◌&&◌}
use lib.Dec.{eqb}
use Rattle.requests.proofs.Requests.find_id.Given as goal

abbrev pub invariant-loop-i : goal.invariant-loop-i
invariant-loop-i l = (j : ℕ) → j < l.i → (get_or l.self.live j false && eqb (get_or l.self.ids j 0) l.id) ≡ false
