-- `test_drive::drive` meets its contract: what is still to come, after what is done, gives what all of the script gives.
-- Assumes nothing.
use Rattle.std.proofs.Common.{refl, arith}
use borrow.Author.Rules.{part_to_end}
use Rattle.test_drive.proofs.ScriptRuns.{drive-starts, drive-goes-on, drive-short, drive-full}
use Rattle.test_drive.proofs.drive.Goals as goal

pub loop-k-init : goal.loop-k-init
loop-k-init g c = drive-starts c.fresh_session-s.ensures

pub returns-then-rest-size : goal.returns-then-rest-size
returns-then-rest-size g c =
    drive-short c.loop-k.invariant (part_to_end c.args.script.now c.loop-k.at) c.get32.ensures c.if-rest-size.true c.put_watch.ensures

pub loop-k-preserved : goal.loop-k-preserved
loop-k-preserved g c =
    drive-goes-on c.loop-k.invariant c.call-answer.result (omega arith) (part_to_end c.args.script.now c.loop-k.at) c.get32.ensures c.if-rest-size.false c.get8.ensures
    c.side_of-from.ensures c.part.ensures c.base_of-base.ensures c.call-answer.auto.hold c.call-answer.ensures c.put_record.ensures

pub returns : goal.returns
returns g c = drive-full c.loop-k.invariant _ refl (omega arith) c.put_watch-2.ensures
