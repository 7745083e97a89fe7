-- `test_replay::test_replay` meets its contract: what is still to come, over what is laid, gives what all of the script gives.
-- Assumes nothing.
use Rattle.test_replay.proofs.Replays.{Replaying}
use Rattle.test_replay.proofs.test_replay.Given as goal

abbrev pub invariant-loop-k : goal.invariant-loop-k
invariant-loop-k l = Replaying l.script l.initial.out l.out l.s l.at l.k
