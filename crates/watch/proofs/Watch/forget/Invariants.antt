-- The loop of `Watch::forget`: on the first rows 0 is expected.
-- Assumes nothing.
use Rattle.std.proofs.Common.{◌≡◌, ℕ}
use Rattle.scan.specs.Loop.{up_to}
use Rattle.watch.specs.Watch.{begun}
use Rattle.watch.proofs.Watch.forget.Given as goal

abbrev pub invariant-loop-row : goal.invariant-loop-row
invariant-loop-row l = l.row-items ≡ up_to (λ (k : ℕ). begun) 0 l.row-index l.fn.self.rows
