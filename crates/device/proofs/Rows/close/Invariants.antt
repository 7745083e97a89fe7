-- The loop of `Rows::close`: of the first rows the streams are kept that the scope does not touch.
-- Assumes nothing.
use Rattle.std.proofs.Common.{◌≡◌, ℕ, not}
use Rattle.device.specs.Device.{row_at, touches}
use Rattle.device.proofs.RowFunctions.{kept_to}
use Rattle.device.proofs.Rows.close.Given as goal

abbrev pub invariant-loop-row : goal.invariant-loop-row
invariant-loop-row l = l.self ≡ kept_to (λ (k : ℕ). not (touches l.s k (row_at l.fn.self k).interface)) l.fn.self l.row
