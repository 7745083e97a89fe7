-- `Requests::clear` meets its contract: before round i, the live places below i are free (`gone-more`, `gone-same`).
-- Assumes nothing.
use Rattle.std.proofs.Common.{◌≡◌, ℕ, false}
use Rattle.requests.specs.Requests.{Place, without}
use Rattle.requests.proofs.Loops.{gone}
use Rattle.requests.proofs.Requests.clear.Given as goal

abbrev pub invariant-loop-i : goal.invariant-loop-i
invariant-loop-i l = l.self ≡ without l.fn.self (gone l.fn.self (λ (k : ℕ). false) (λ (p : Place). p.live) l.i)
