-- `test_replay::test_replay` meets its contract: what is still to come, over what is laid, gives what all of the script gives.
-- Assumes nothing.
use borrow.Author.Rules.{part_to_end}
use Rattle.test_replay.proofs.Replays.{replay-starts, replay-goes-on, replay-short, replay-full}
use Rattle.test_replay.proofs.test_replay.Goals as goal

pub loop-k-init : goal.loop-k-init
loop-k-init c = replay-starts c.fresh_session-s.ensures

pub returns-then-rest-size : goal.returns-then-rest-size
returns-then-rest-size c =
    replay-short c.loop-k.invariant (part_to_end c.args.script.now c.loop-k.at) c.get16.ensures c.if-rest-size.true

pub loop-k-preserved : goal.loop-k-preserved
loop-k-preserved c =
    replay-goes-on c.loop-k.invariant c.loop-k-test.true (part_to_end c.args.script.now c.loop-k.at) c.get16.ensures c.if-rest-size.false c.get8.ensures c.side_of.ensures c.part.ensures c.judge.ensures

pub returns : goal.returns
returns c = replay-full c.loop-k.invariant c.loop-k-test.false
