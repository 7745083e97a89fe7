-- `test_drive::put_watch` meets its contract: the rows so far are laid, and each turn lays one more (`row_laid`).
-- Assumes nothing.
use Rattle.test_drive.proofs.WatchBytes.{none-laid, row_laid}
use Rattle.test_drive.proofs.put_watch.Goals as goal

pub loop-i-init : goal.loop-i-init
loop-i-init c = none-laid _ _

pub loop-i-preserved : goal.loop-i-preserved
loop-i-preserved c =
    row_laid c.args.w.now _ c.loop-i.i c.loop-i.invariant c.put.ensures c.put-in-loop-i.ensures c.put-in-loop-i-2.ensures
