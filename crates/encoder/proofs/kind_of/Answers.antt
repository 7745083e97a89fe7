-- `encoder::kind_of` meets its contract: kinds 0 to 27 stand at their number, and 100 to 104 behind them.
-- Assumes nothing.
use mathlib.Core.Path.{sym, ◌∙◌}
use native.Mathlib.Omega.{arith}
use borrow.Author.Tests.{lt-leb}
use Rattle.kinds.specs.Slots.{low, number_at}
use Rattle.encoder.proofs.kind_of.Goals as goal

pub returns-then-slot-lt28 : goal.returns-then-slot-lt28
returns-then-slot-lt28 c = sym (low c.args.slot (omega arith))

pub returns-else-slot-lt28 : goal.returns-else-slot-lt28
returns-else-slot-lt28 c = let s = c.args.slot in sym (number_at s c.requires ∙ rw (lt-leb s 27 (omega arith)))
