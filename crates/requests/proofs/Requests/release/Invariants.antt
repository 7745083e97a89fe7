-- `Requests::release` meets its contract: before round j, place i and those below j that end are free (`gone-more`,
-- `gone-same`).
-- Assumes nothing.
use Rattle.std.proofs.Common.{◌≡◌, ℕ}
use lib.Dec.{eqb}
use Rattle.requests.specs.Requests.{ends, without}
use Rattle.requests.proofs.Loops.{gone}
use Rattle.requests.proofs.Requests.release.Given as goal

abbrev pub invariant-loop-j : goal.invariant-loop-j
invariant-loop-j l = l.self ≡ without l.fn.self (gone l.fn.self (λ (k : ℕ). eqb k l.i) (ends l.rows l.s) l.j)
