-- The loop of `Rows::has_mistyped`: the rows of the mask before this one are of the type.
-- Assumes nothing.
use Rattle.std.proofs.Common.{◌≡◌, ℕ, ◌<◌, true}
use Rattle.octets.specs.Bits.{has_bit}
use Rattle.device.specs.Device.{row_at}
use Rattle.device.proofs.Rows.has_mistyped.Given as goal

abbrev pub invariant-loop-row : goal.invariant-loop-row
invariant-loop-row l = (k : ℕ) → k < l.row → has_bit l.mask k ≡ true → (row_at l.self k).ty ≡ l.ty
