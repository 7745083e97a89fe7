-- The loop of `Rows::replace`: of the first rows the streams are kept whose rows keep their type.
-- Assumes nothing.
use Rattle.std.proofs.Common.{◌≡◌, ℕ, eqb}
use Rattle.device.specs.Device.{row_at}
use Rattle.device.proofs.RowFunctions.{kept_to}
use Rattle.device.proofs.Rows.replace.Given as goal

abbrev pub invariant-loop-row : goal.invariant-loop-row
invariant-loop-row l = l.self ≡ kept_to (λ (k : ℕ). eqb (row_at l.fn.self k).ty (row_at l.new k).ty) l.fn.self l.row
