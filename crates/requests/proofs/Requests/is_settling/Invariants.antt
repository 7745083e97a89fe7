-- `Requests::is_settling` meets its contract: no place below i is live and has a kind that sets (`search-hit`,
-- `search-none`).
-- Assumes nothing.
use Rattle.std.proofs.Common.{◌≡◌, ℕ, ◌<◌, get_or, false, ◌&&◌}
use Rattle.requests.specs.Requests.{is_setting}
use Rattle.requests.proofs.Requests.is_settling.Given as goal

abbrev pub invariant-loop-i : goal.invariant-loop-i
invariant-loop-i l = (j : ℕ) → j < l.i → (get_or l.self.live j false && is_setting (get_or l.self.kinds j 0)) ≡ false
