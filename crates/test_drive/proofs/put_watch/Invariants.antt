-- `test_drive::put_watch` meets its contract: the rows so far are laid, and each turn lays one more (`row_laid`).
-- Assumes nothing.
use Rattle.std.proofs.Common.{◌≡◌}
use lib.Seq.{sets}
use Rattle.test_drive.specs.Drive.{rows_bytes}
use Rattle.test_drive.proofs.put_watch.Given as goal

abbrev pub invariant-loop-i : goal.invariant-loop-i
invariant-loop-i l = l.out ≡ sets l.initial.out 0 (rows_bytes l.w 0 l.i)
